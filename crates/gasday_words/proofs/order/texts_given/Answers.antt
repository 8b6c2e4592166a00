use Rattle.std.proofs.Common.{◌≡◌, ◌∙◌, List, Option, Some, None, [], ap, codes, map}
use Rattle.std.specs.Option.{unwrap_or}
use Rattle.std.proofs.lemmas.Result.{IfOk-weaker}
use Rattle.clap.specs.Words.{Text, all_of, found_of, rows_of}
use Rattle.clap.proofs.WalkLemmas.{raw_values-rows}
use Rattle.gasday_words.proofs.order.texts_given.Goals as goal

pub returns-in-Some : goal.returns-in-Some
returns-in-Some c =
    let found = found_of c.args.given.now in
    let is : Some (map (λ t. t.now) c.in-Some.texts.now) ≡ all_of (codes "text") (rows_of found) = c.in-Some.ensures ∙ raw_values-rows found (codes "text") in
    IfOk-weaker c.from_slice.result _ _ (λ v same. ap (map (λ t. t.now)) same ∙ ap (λ (o : Option (List Text)). unwrap_or o []) is) c.from_slice.ensures.items

pub returns-in-None : goal.returns-in-None
returns-in-None c =
    let found = found_of c.args.given.now in
    let is : None ≡ all_of (codes "text") (rows_of found) = c.in-None.ensures ∙ raw_values-rows found (codes "text") in
    ap (map (λ t. t.now)) c.new.ensures.items ∙ ap (λ (o : Option (List Text)). unwrap_or o []) is
