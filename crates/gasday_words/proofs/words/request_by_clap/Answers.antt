use Rattle.std.proofs.Common.{List, Option, Result, Ok, Err, OnOk, ◌≡◌, ◌∙◌, [], ap, false, inl, inr, is_some, map, refl, subst, sym, true}
use Rattle.std.proofs.lemmas.Result.{IfErr-weaker, IfOk-weaker}
use Rattle.clap.specs.Kinds.{HasKind}
use Rattle.clap.specs.Words.{App, HasMatchesOf, Text, app_of, fault_of, is_simple, is_simple_and_free, kind_of, subcommand_of, subcommand_rows_of, takes}
use Rattle.clap.specs.declared.parser.matches.ArgMatches.{ArgMatches}
use Rattle.gasday_words.specs.declared.fault.UsageFault.{UsageFault}
use Rattle.gasday_words.specs.declared.fault.UsageFault.TheVariants.{OutOfMemory}
use Rattle.gasday_words.specs.declared.order.Request.{Request}
use Rattle.gasday_words.specs.Meaning.{gasday, request_in}
use Rattle.gasday_words.specs.Ordered.{Requested}
use Rattle.gasday_words.specs.Outcomes.{IsNoRequest}
use Rattle.gasday_words.proofs.Forms.{is_free_gasday, is_simple_gasday}
use Rattle.gasday_words.proofs.Telling.{told, told_of_none, memory_told}
use Rattle.gasday_words.proofs.words.request_by_clap.Goals as goal

-- the subcommand that the program's matches name is the one that the words name
met : (a : App) (words : List Text) (m : ArgMatches) → a ≡ gasday → HasMatchesOf a words m → subcommand_rows_of m ≡ subcommand_of gasday words
met a words m is has = (has (ap is_simple is ∙ is_simple_gasday)).1 ∙ ap (λ (b : App). subcommand_of b words) is

is_free : (a : App) → a ≡ gasday → is_simple_and_free a ≡ true
is_free a is = ap is_simple_and_free is ∙ is_free_gasday

on_any : (r : Result Request UsageFault) (X : Type 0) → X → OnOk r X
on_any (Ok request) X x = x
on_any (Err fault) X x = tt

-- where there is a meaning, only memory can be short
short : (meaning : Option Requested) (fault : UsageFault) → IsNoRequest meaning fault → is_some meaning ≡ true → fault ≡ OutOfMemory
short meaning fault (inl is) some = is
short meaning fault (inr none) some = let bad : false ≡ true = sym (ap is_some none.0) ∙ some in cc

pub returns-in_default-clause-meaning : goal.returns-in_default-clause-meaning
returns-in_default-clause-meaning g c = tt

pub returns-in_default-clause-faultless : goal.returns-in_default-clause-faultless
returns-in_default-clause-faultless g c = tt

pub returns-in_default-clause-taken : goal.returns-in_default-clause-taken
returns-in_default-clause-taken g c = λ taken some. refl

pub returns-in_default-clause-faults : goal.returns-in_default-clause-faults
returns-in_default-clause-faults g c = tt

pub returns-in-Err-clause-meaning : goal.returns-in-Err-clause-meaning
returns-in-Err-clause-meaning g c = tt

pub returns-in-Err-clause-faultless : goal.returns-in-Err-clause-faultless
returns-in-Err-clause-faultless g c = tt

pub returns-in-Err-clause-taken : goal.returns-in-Err-clause-taken
returns-in-Err-clause-taken g c =
    let words = map g.S.AsStr.text c.args.words.now in
    let same : takes (app_of c.in-Ok.line) words ≡ takes gasday words = ap (λ (a : App). takes a words) c.in-Ok.ensures in
    λ taken some. memory_told (kind_of c.in-Err.error) c.fault_of-fault.result (c.in-Err.ensures.passes (same ∙ taken)) c.fault_of-fault.ensures

pub returns-in-Err-clause-faults : goal.returns-in-Err-clause-faults
returns-in-Err-clause-faults g c =
    let words = map g.S.AsStr.text c.args.words.now in
    let has = subst (λ (a : App). HasKind (fault_of a words) c.in-Err.error) c.in-Ok.ensures (c.in-Err.ensures.kinds (is_free _ c.in-Ok.ensures)) in
    told words c.in-Err.error c.fault_of-fault.result has c.fault_of-fault.ensures

pub returns-in-Ok-try_get_matches_from-clause-meaning : goal.returns-in-Ok-try_get_matches_from-clause-meaning
returns-in-Ok-try_get_matches_from-clause-meaning g c =
    let words = map g.S.AsStr.text c.args.words.now in
    let met = met _ words _ c.in-Ok.ensures c.in-Ok-try_get_matches_from.ensures.matches in
    IfOk-weaker c.request_named-named.result _ _ (λ o h. sym (ap request_in met) ∙ h) c.request_named-named.ensures.ok

pub returns-in-Ok-try_get_matches_from-clause-faultless : goal.returns-in-Ok-try_get_matches_from-clause-faultless
returns-in-Ok-try_get_matches_from-clause-faultless g c =
    let words = map g.S.AsStr.text c.args.words.now in
    on_any _ _ (subst (λ (a : App). fault_of a words ≡ []) c.in-Ok.ensures (c.in-Ok-try_get_matches_from.ensures.kinds (is_free _ c.in-Ok.ensures)))

pub returns-in-Ok-try_get_matches_from-clause-taken : goal.returns-in-Ok-try_get_matches_from-clause-taken
returns-in-Ok-try_get_matches_from-clause-taken g c =
    let words = map g.S.AsStr.text c.args.words.now in
    let met = met _ words _ c.in-Ok.ensures c.in-Ok-try_get_matches_from.ensures.matches in
    IfErr-weaker c.request_named-named.result _ _ (λ e why taken some. short _ e (subst (λ m. IsNoRequest (request_in m) e) met why) some) c.request_named-named.ensures.err

pub returns-in-Ok-try_get_matches_from-clause-faults : goal.returns-in-Ok-try_get_matches_from-clause-faults
returns-in-Ok-try_get_matches_from-clause-faults g c =
    let words = map g.S.AsStr.text c.args.words.now in
    let faultless = subst (λ (a : App). fault_of a words ≡ []) c.in-Ok.ensures (c.in-Ok-try_get_matches_from.ensures.kinds (is_free _ c.in-Ok.ensures)) in
    let met = met _ words _ c.in-Ok.ensures c.in-Ok-try_get_matches_from.ensures.matches in
    IfErr-weaker c.request_named-named.result _ _ (λ e why. told_of_none words e faultless (subst (λ m. IsNoRequest (request_in m) e) met why)) c.request_named-named.ensures.err
