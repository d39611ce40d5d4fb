-- A word is looked up among the values of the type.
use Rattle.std.proofs.Common.{◌≡◌, ℕ, rules, find, Ok, Err, option_map, sym, ap, ◌∙◌}
use Rattle.std.proofs.lemmas.Iterator.{YieldsList-from_slice}
use Rattle.std.proofs.lemmas.Iterator.Search.{find_from_yields_List}
use Rattle.std.specs.Option.{option_copied}
use Rattle.std.specs.Str.{bytes_eq}
use borrow.Author.Tests.{tests}
use Rattle.tape_file.proofs.Listings.{from_listed}
use Rattle.tape_file.proofs.spelled.AnySpelled.parse.Goals as goal

pub returns-in-Some : goal.returns-in-Some
returns-in-Some g c =
    let word = c.in_ok-word.word.now in
    let looked : option_copied c.find.result ≡ find (λ p. bytes_eq p.0.now word) c.all.result.now = find_from_yields_List (λ p. bytes_eq p.0.now word) _ _ c.find.result c.find.ensures.ran (YieldsList-from_slice c.all.result.now c.iter.ensures.rest) (λ x b q k. search (rules, tests)) in
    from_listed g.T.Listed.spelled c.all.result.now c.all.ensures.words c.all.ensures.each {E = ℕ} c.args.words.now c.word.new.self word (Ok c.in-Some.field-0.now.1) c.in_ok-word.ensures
    (ap (option_map (λ p. p.1)) (sym looked ∙ ap option_copied c.in-Some.is))

pub returns-in-None : goal.returns-in-None
returns-in-None g c =
    let word = c.in_ok-word.word.now in
    let looked : option_copied c.find.result ≡ find (λ p. bytes_eq p.0.now word) c.all.result.now = find_from_yields_List (λ p. bytes_eq p.0.now word) _ _ c.find.result c.find.ensures.ran (YieldsList-from_slice c.all.result.now c.iter.ensures.rest) (λ x b q k. search (rules, tests)) in
    from_listed g.T.Listed.spelled c.all.result.now c.all.ensures.words c.all.ensures.each c.args.words.now c.word.new.self word (Err c.FAULT.result) c.in_ok-word.ensures
    (ap (option_map (λ p. p.1)) (sym looked ∙ ap option_copied c.in-None.is))
