use Rattle.std.proofs.Common.{◌≡◌, true, Some, Ok, refl, ◌∙◌}
use Rattle.events.specs.Meaning.{front}
use Rattle.events.specs.Fronts.{at_front}
use Rattle.events.proofs.Meanings.{same_meaning, peek_front}
use Rattle.events.proofs.reader.ReaderEvents.peek.Goals as goal

pub returns-clause-after : goal.returns-clause-after
returns-clause-after g c =
    let s = c.args.self.now in
    let close = g.R.Reel.ending s.reel in
    let coming = g.R.Reel.coming s.reel in
    let x = c.in-Some.record in
    let shown : Ok (Some x) ≡ front true s.anchors.now close (at_front s.resolved coming) = cc (c.in_ok-record.ensures, c.in-Some.is) in
    c.settle.ensures ∙ same_meaning _ _ (peek_front s.deferring s.resolved s.anchors.now close coming x c.in_ok-record-2.record shown c.in_ok-record-2.ensures) refl refl refl refl refl
