-- What the SELECTs of one book and cycle, and of the version, show.
use Rattle.std.proofs.Common.{◌≡◌, ℕ, pos, List, [], ◌∷◌, Bool, true, false, ◌&&◌, if◌then◌else◌, filter, map, refl, sym, ap, subst, ◌∙◌}
use Rattle.std.specs.List.{flat_map, list_all}
use Rattle.std.specs.List.Sorted.{IsPermutation}
use Rattle.std.proofs.lemmas.List.Sorted.{IsPermutation-map}
use Rattle.std.proofs.lemmas.List.Elements.{filter_agree}
use Rattle.sqlite.specs.declared.types.Value.TheVariants.{Null, Int, Text as Words}
use Rattle.sqlite.specs.Order.{Row, column}
use Rattle.sqlite.specs.Ops.{unary}
use Rattle.sqlite.specs.Term.{holds}
use Rattle.sqlite.specs.Query.{IsAnswer, output, Output}
use Rattle.sqlite.specs.Program.{overlay}
use Rattle.sqlite.specs.Listing.{understood}
use Rattle.sqlite.specs.State.{State, Shown, ShowsRows, IsUnchanged}
use Rattle.sqlite.specs.Clock.{timed}
use Rattle.sqlite.proofs.Callers.{IsPlain, reads_as}
use Rattle.gd_archive_store.specs.Tables.{archive, version_2, HasArchive}
use Rattle.gd_archive_store.specs.Contents.{is_of, kept_in, kept_at, versions_of}
use Rattle.gd_archive_store.proofs.Texts.{find_text, find_is, find_plain, find_query, version_text, version_query, version_is}

-- a query changes nothing
pub shown_same : (sql : List ℕ) (params : Row) (old new : State) (rows : List Row) → IsPlain (understood old.now.schema sql) → Shown sql params old new rows → IsUnchanged old new
unfolding Shown
shown_same sql params old new rows plain h =
    let none = (subst IsPlain h.1.is plain).0 in
    let it = subst (ShowsRows old new sql h.0 (timed params h.0.formats h.1.now) rows) none h.2 in it.3

staged_step : (params : Row) (p : Row → Bool) (r : Row) (rows : List Row) → flat_map (λ r. if p r then ((params ∷ r ∷ []) ∷ []) else []) rows ≡ map (λ r. params ∷ r ∷ []) (filter p rows)
    → (b : Bool) → p r ≡ b → flat_map (λ r. if p r then ((params ∷ r ∷ []) ∷ []) else []) (r ∷ rows) ≡ map (λ r. params ∷ r ∷ []) (filter p (r ∷ rows))
staged_step params p r rows h true e = rw e (ap (λ xs. (params ∷ r ∷ []) ∷ xs) h)
staged_step params p r rows h false e = rw e h

-- the rows that pass WHERE, each with the parameters
pub staged_of : (params : Row) (p : Row → Bool) (rows : List Row) → flat_map (λ r. if p r then ((params ∷ r ∷ []) ∷ []) else []) rows ≡ map (λ r. params ∷ r ∷ []) (filter p rows)
staged_of params p [] = refl
staged_of params p (r ∷ rows) = staged_step params p r rows (staged_of params p rows) (p r) refl

and_true : (a b : Bool) → (a && (b && true)) ≡ (a && b)
and_true true true = refl
and_true true false = refl
and_true false b = refl

tests : (book : List ℕ) (cycle : ℕ) (r : Row) → list_all (holds ((Words book ∷ Int (pos cycle) ∷ []) ∷ r ∷ [])) find_query.filter ≡ is_of book cycle r
unfolding unary
tests book cycle r = and_true _ _

fused : (params : Row) (rows : List Row) → map (λ (o : Output). o.1) (map (output find_query) (map (λ r. params ∷ r ∷ []) rows)) ≡ map kept_in rows
fused params [] = refl
fused params (r ∷ rows) = ap (λ xs. kept_in r ∷ xs) (fused params rows)

pub finds : (old new : State) (book : List ℕ) (cycle : ℕ) (rows : List Row) → old.now.schema ≡ version_2
    → Shown find_text (Words book ∷ Int (pos cycle) ∷ []) old new rows → IsPermutation (kept_at old.now book cycle) rows × IsUnchanged old new
finds old new book cycle rows has h =
    let params : Row = Words book ∷ Int (pos cycle) ∷ [] in
    let got = (reads_as find_text params old new version_2 has _ find_is.0 find_plain find_is.1 rows h).answer in
    let a : IsAnswer find_query (overlay old.now.trees []) params rows = got Null in
    let p = λ (r : Row). list_all (holds (params ∷ r ∷ [])) find_query.filter in
    let F = filter (is_of book cycle) (old.now.trees 3) in
    let staged : a.staged ≡ map (λ r. params ∷ r ∷ []) F =
    a.grouped ∙ staged_of params p (old.now.trees 3) ∙ ap (map (λ (r : Row). params ∷ r ∷ [])) (filter_agree p (is_of book cycle) (tests book cycle) (old.now.trees 3)) in
    let kept : a.kept ≡ map (output find_query) (map (λ r. params ∷ r ∷ []) F) = a.distinct ∙ ap (map (output find_query)) staged in
    let texts : map (λ (o : Output). o.1) a.kept ≡ map kept_in F = ap (map (λ (o : Output). o.1)) kept ∙ fused params F in
    let same = IsPermutation-map (λ (o : Output). o.1) a.kept a.ordered a.same in (
      subst (IsPermutation (kept_at old.now book cycle)) (sym a.shown) (subst (λ xs. IsPermutation xs (map (λ (o : Output). o.1) a.ordered)) texts same),
      shown_same find_text params old new rows (subst (λ s. IsPlain (understood s find_text)) (sym has) find_plain) h,
    )

fused_version : (params : Row) (rows : List Row) → map (λ (o : Output). o.1) (map (output version_query) (map (λ r. params ∷ r ∷ []) rows)) ≡ map (λ r. column r 2 ∷ []) rows
fused_version params [] = refl
fused_version params (r ∷ rows) = ap (λ xs. (column r 2 ∷ []) ∷ xs) (fused_version params rows)

all_pass : (params : Row) (rows : List Row) → flat_map (λ r. if list_all (holds (params ∷ r ∷ [])) version_query.filter then ((params ∷ r ∷ []) ∷ []) else []) rows ≡ map (λ r. params ∷ r ∷ []) rows
all_pass params [] = refl
all_pass params (r ∷ rows) = ap (λ xs. (params ∷ r ∷ []) ∷ xs) (all_pass params rows)

pub versions_shown : (old new : State) (rows : List Row) → HasArchive old.now.schema → Shown version_text [] old new rows → IsPermutation (versions_of old.now) rows × IsUnchanged old new
versions_shown old new rows has h =
    let schema = record old.now.schema { tables = archive ∷ has.0 } in
    let is : old.now.schema ≡ schema = ap (λ ts. record old.now.schema { tables = ts }) has.1 in
    let reads = version_is has.0 schema.indexes schema.views in
    let got = (reads_as version_text [] old new schema is _ reads.0 reads.2 reads.1 rows h).answer in
    let a : IsAnswer version_query (overlay old.now.trees []) [] rows = got Null in
    let all = old.now.trees 0 in
    let staged : a.staged ≡ map (λ r. [] ∷ r ∷ []) all = a.grouped ∙ all_pass [] all in
    let kept : a.kept ≡ map (output version_query) (map (λ r. [] ∷ r ∷ []) all) = a.distinct ∙ ap (map (output version_query)) staged in
    let texts = ap (map (λ (o : Output). o.1)) kept ∙ fused_version [] all in
    let same = IsPermutation-map (λ (o : Output). o.1) a.kept a.ordered a.same in (
      subst (IsPermutation (versions_of old.now)) (sym a.shown) (subst (λ xs. IsPermutation xs (map (λ (o : Output). o.1) a.ordered)) texts same),
      shown_same version_text [] old new rows (subst (λ s. IsPlain (understood s version_text)) (sym is) reads.2) h,
    )
