-- The events by the word that they begin with.
use Rattle.tape_file.proofs.Leading.{scalar_leads, seq_leads, map_leads, body_lacks_head, body_lacks_style, body_lacks_place, body_whole}
use Rattle.tape_file.proofs.Parsing.{led_exit, led_whole}
use Rattle.tape_file.proofs.read.EventSpelled.parse.Goals as goal

pub returns-in_err-anchor-in-scalar : goal.returns-in_err-anchor-in-scalar
returns-in_err-anchor-in-scalar c =
    led_exit scalar_leads _ _ _ c.in_ok-word.ensures c.in-scalar.is _ _ c.from_residual-in_err-anchor-in-scalar.ensures.0 (body_lacks_head c.in_err-anchor-in-scalar.ensures)

pub returns-in_err-read-in-scalar : goal.returns-in_err-read-in-scalar
returns-in_err-read-in-scalar c =
    led_exit scalar_leads _ _ _ c.in_ok-word.ensures c.in-scalar.is _ _ c.from_residual-in_err-read-in-scalar.ensures.0 (body_lacks_style c.in_ok-anchor-in-scalar.ensures c.in_err-read-in-scalar.ensures)

pub returns-in_err-read-in-scalar-2 : goal.returns-in_err-read-in-scalar-2
returns-in_err-read-in-scalar-2 c =
    led_exit scalar_leads _ _ _ c.in_ok-word.ensures c.in-scalar.is _ _ c.from_residual-in_err-read-in-scalar-2.ensures.0 (body_lacks_place c.in_ok-anchor-in-scalar.ensures c.in_ok-read-in-scalar.ensures c.in_err-read-in-scalar-2.ensures)

pub returns-in_err-anchor-in-seq : goal.returns-in_err-anchor-in-seq
returns-in_err-anchor-in-seq c = led_exit seq_leads _ _ _ c.in_ok-word.ensures c.in-seq.is _ _ c.from_residual-in_err-anchor-in-seq.ensures.0 c.in_err-anchor-in-seq.ensures

pub returns-in_err-anchor-in-map : goal.returns-in_err-anchor-in-map
returns-in_err-anchor-in-map c = led_exit map_leads _ _ _ c.in_ok-word.ensures c.in-map.is _ _ c.from_residual-in_err-anchor-in-map.ensures.0 c.in_err-anchor-in-map.ensures

pub returns-in_ok-read-in-scalar-2 : goal.returns-in_ok-read-in-scalar-2
returns-in_ok-read-in-scalar-2 c =
    led_whole scalar_leads _ _ _ c.in_ok-word.ensures c.in-scalar.is _ _ (body_whole c.in_ok-anchor-in-scalar.ensures c.in_ok-read-in-scalar.ensures c.in_ok-read-in-scalar-2.ensures)

pub returns-in_ok-anchor-in-seq : goal.returns-in_ok-anchor-in-seq
returns-in_ok-anchor-in-seq c = led_whole seq_leads _ _ _ c.in_ok-word.ensures c.in-seq.is _ _ c.in_ok-anchor-in-seq.ensures

pub returns-in_ok-anchor-in-map : goal.returns-in_ok-anchor-in-map
returns-in_ok-anchor-in-map c = led_whole map_leads _ _ _ c.in_ok-word.ensures c.in-map.is _ _ c.in_ok-anchor-in-map.ensures
