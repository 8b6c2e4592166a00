use Rattle.std.proofs.Common.{◌≡◌, ◌∙◌, List, Option, Some, None, [], ap, codes, length, map, sym}
use Rattle.std.specs.Option.{unwrap_or}
use Rattle.std.proofs.lemmas.List.{length-map}
use Rattle.clap.specs.Words.{Text, all_of, found_of, rows_of}
use Rattle.clap.proofs.WalkLemmas.{raw_values-rows}
use Rattle.gasday_words.proofs.order.text_count.Goals as goal

pub returns-in-Some : goal.returns-in-Some
returns-in-Some c =
    let found = found_of c.args.given.now in
    let is : Some (map (λ t. t.now) c.in-Some.texts.now) ≡ all_of (codes "text") (rows_of found) = c.in-Some.ensures ∙ raw_values-rows found (codes "text") in
    sym (length-map c.in-Some.texts.now (λ t. t.now)) ∙ ap (λ (o : Option (List Text)). length (unwrap_or o [])) is

pub returns-in-None : goal.returns-in-None
returns-in-None c =
    let found = found_of c.args.given.now in
    let is : None ≡ all_of (codes "text") (rows_of found) = c.in-None.ensures ∙ raw_values-rows found (codes "text") in
    ap (λ (o : Option (List Text)). length (unwrap_or o [])) is
