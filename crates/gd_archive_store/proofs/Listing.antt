-- What the SELECT of all rows shows.
use Rattle.std.proofs.Common.{◌≡◌, List, [], ◌∷◌, All, map, if◌then◌else◌, refl, sym, ap, subst, ◌∙◌}
use Rattle.std.specs.List.{flat_map, list_all}
use Rattle.std.specs.List.Sorted.{IsPermutation}
use Rattle.std.proofs.lemmas.List.Sorted.{IsPermutation-map, All-permutation}
use Rattle.sqlite.specs.declared.types.Value.TheVariants.{Null}
use Rattle.sqlite.specs.Order.{Row}
use Rattle.sqlite.specs.Term.{holds}
use Rattle.sqlite.specs.Query.{IsAnswer, output, Output}
use Rattle.sqlite.specs.Program.{overlay}
use Rattle.sqlite.specs.Listing.{understood}
use Rattle.sqlite.specs.State.{State, Shown, IsUnchanged}
use Rattle.sqlite.proofs.Callers.{IsPlain, reads_as}
use Rattle.gd_archive_store.specs.Tables.{version_2}
use Rattle.gd_archive_store.proofs.Finding.{shown_same}
use Rattle.gd_archive_store.proofs.Texts.{all_text, all_query, all_is}
use Rattle.gd_archive_store.specs.Contents.{shown, rows_of, IsAscending}
use Rattle.gd_archive_store.proofs.Ascending.{IsKeyed, all_keyed, ascends}

all_pass : (params : Row) (rows : List Row) → flat_map (λ r. if list_all (holds (params ∷ r ∷ [])) all_query.filter then ((params ∷ r ∷ []) ∷ []) else []) rows ≡ map (λ r. params ∷ r ∷ []) rows
all_pass params [] = refl
all_pass params (r ∷ rows) = ap (λ xs. (params ∷ r ∷ []) ∷ xs) (all_pass params rows)

fused : (rows : List Row) → map (λ (o : Output). o.1) (map (output all_query) (map (λ r. [] ∷ r ∷ []) rows)) ≡ map shown rows
fused [] = refl
fused (r ∷ rows) = ap (λ xs. shown r ∷ xs) (fused rows)

pub shows_all : (old new : State) (rows : List Row) → old.now.schema ≡ version_2 → Shown all_text [] old new rows → IsPermutation (rows_of old.now) rows × IsAscending rows × IsUnchanged old new
shows_all old new rows has h =
    let got = (reads_as all_text [] old new version_2 has _ all_is.0 all_is.2 all_is.1 rows h).answer in
    let a : IsAnswer all_query (overlay old.now.trees []) [] rows = got Null in
    let all = old.now.trees 3 in
    let staged : a.staged ≡ map (λ r. [] ∷ r ∷ []) all = a.grouped ∙ all_pass [] all in
    let kept : a.kept ≡ map (output all_query) (map (λ r. [] ∷ r ∷ []) all) = a.distinct ∙ ap (map (output all_query)) staged in
    let texts = ap (map (λ (o : Output). o.1)) kept ∙ fused all in
    let keyed = All-permutation IsKeyed a.kept a.ordered a.same (subst (All IsKeyed) (sym kept) (all_keyed all)) in
    let same = IsPermutation-map (λ (o : Output). o.1) a.kept a.ordered a.same in (
      subst (IsPermutation (rows_of old.now)) (sym a.shown) (subst (λ xs. IsPermutation xs (map (λ (o : Output). o.1) a.ordered)) texts same),
      subst IsAscending (sym a.shown) (ascends a.ordered keyed a.sorted),
      shown_same all_text [] old new rows (subst (λ s. IsPlain (understood s all_text)) (sym has) all_is.2) h,
    )
