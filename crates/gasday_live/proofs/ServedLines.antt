-- Lines that something serves, as what is seen of it.
use Rattle.std.specs.Prelude.{IfSome}
use Rattle.std.proofs.Common.{◌≡◌, ℕ, Bool, true, false, ◌||◌, List, [], ◌∷◌, ◌++◌, Option, Some, None, refl, sym, ap, subst, ◌∙◌}
use Rattle.std.specs.Fmt.{option_append}
use Rattle.sqlite.specs.State.{State, HasCleanDisk}
use Rattle.gd_serving.specs.Lines.{cut}
use Rattle.gd_serving.specs.Yields.{Yield, LinesGive}
use Rattle.gd_serving.specs.Runs.{Keeps, Served, Stopped, StoppedUnread, EndsAs}
use Rattle.gd_serving.specs.declared.failure.Finish.{Finish}
use Rattle.gd_serving.specs.declared.failure.Failure.{Failure}
use Rattle.gd_serving.specs.declared.failure.Failure.TheVariants.{ReadFailed, OutOfMemory, Store, WriteFailed}
use Rattle.gd_live.specs.Lines.{Gives}
use Rattle.gd_live.specs.Stands.{Stand}
use Rattle.gasday_live.specs.Books.{BooksGrow}
use Rattle.gasday_live.specs.Runs.{Found, IsBegun, OnBook, HasGrown, ComesToEnd, FrontServed, Stops}
use Rattle.gasday_live.specs.Watching.{is_fault, any_fault}
use Rattle.gasday_live.proofs.Stands.{lines_seen}
use Rattle.gasday_live.proofs.Watching.{or_false}

or_assoc : (a b c : Bool) → ((a || b) || c) ≡ (a || (b || c))
or_assoc true b c = refl
or_assoc false b c = refl

-- something that takes lines, with what is seen of it: where a book stands, and whether a row was faulty
module _ {S : Type 0} (gives : S → List ℕ → S → Yield → Type 0) (f : S → Stand) (h : S → Bool) (one : (s : S) (line : List ℕ) (t : S) (y : Yield) → gives s line t y → Gives (f s) line (f t) y)
    (fault : (s : S) (line : List ℕ) (t : S) (y : Yield) → gives s line t y → h t ≡ (h s || is_fault y)) where
  faults_seen : (s : S) (lines : List (List ℕ)) (t : S) (ys : List Yield) → LinesGive gives s lines t ys → h t ≡ (h s || any_fault ys)
  faults_seen s [] t [] same = ap h same ∙ or_false (h s)
  faults_seen s [] t (y ∷ ys) bad = absurd bad
  faults_seen s (line ∷ lines) t [] bad = absurd bad
  faults_seen s (line ∷ lines) t (y ∷ ys) (mid, gave, later) =
      faults_seen mid lines t ys later ∙ ap (λ b. b || any_fault ys) (fault s line mid y gave) ∙ or_assoc (h s) (is_fault y) (any_fault ys)

  module _ (grow : BooksGrow) (found : Found) (s : S) (next : ℕ) (old new : State) (before behind : Option (List ℕ)) (begun : IsBegun found next (f s) old) (clean : HasCleanDisk new → HasCleanDisk old) where
    -- what is kept of lines on a book grows it
    grown : (lines : List (List ℕ)) (t : S) (ys : List Yield) → LinesGive gives s lines t ys → Keeps ys next old new → OnBook found (f s) new (λ ps. HasGrown ps ys (f t) new)
    grown lines t ys gave keeps up =
        let it = begun (clean up) in
        let kept = (keeps up it.0 it.2 it.3).1 in (
          it.0,
          it.1,
          record {
            more = kept.more;
            settled = kept.settled;
            are = kept.are;
            book = grow.grows (f s) (f t) lines ys it.0 kept.more it.1.stands.book it.1.stands.group (lines_seen gives f one s lines t ys gave) kept.are;
          },
        )

    module _ (text : List ℕ) where
      ends_so : (t : S) (finish : Finish) → h s ≡ false → EndsAs (cut [] text).1 finish → Served gives s (cut [] text).0 t next old new before behind → ComesToEnd found (f s) text new before behind finish (h t)
      ends_so t finish none ends r = record {
        ends = ends;
        last = f t;
        all = record {
          yields = r.yields;
          gave = lines_seen gives f one s (cut [] text).0 t r.yields r.gave;
          tells = r.tells;
          keeps = grown (cut [] text).0 t r.yields r.gave r.keeps;
        };
        fault = faults_seen s (cut [] text).0 t r.yields r.gave ∙ ap (λ b. b || any_fault r.yields) none;
      }

      unread_so : StoppedUnread gives s (cut [] text).0 next old new before behind → FrontServed found (f s) text new before behind
      unread_so r = record {
        served = r.lines;
        rest = r.rest;
        front = r.front;
        last = f r.stand;
        all = record {
          yields = r.yields;
          gave = lines_seen gives f one s r.lines r.stand r.yields r.gave;
          tells = r.tells;
          keeps = grown r.lines r.stand r.yields r.gave r.keeps;
        };
      }

      stops_so : (why : Failure) → Stopped gives s (cut [] text).0 next old new before behind why → Stops found (f s) text new before behind why
      stops_so ReadFailed r = unread_so r
      stops_so OutOfMemory r = unread_so r
      stops_so (Store fault) r = record {
        served = r.lines;
        late = r.last;
        rest = r.rest;
        front = r.front;
        mid = f r.mid;
        last = f r.stand;
        yields = r.yields;
        more = r.more;
        gave = lines_seen gives f one s r.lines r.mid r.yields r.gave;
        gave_more = lines_seen gives f one r.mid r.last r.stand r.more r.gave_more;
        tells = r.tells;
        leaves = λ up. let it = begun (clean up) in (it.0, it.1, r.leaves up it.0 it.2 it.3);
      }
      stops_so WriteFailed r = record {
        served = r.lines;
        rest = r.rest;
        front = r.front;
        last = f r.stand;
        yields = r.yields;
        gave = lines_seen gives f one s r.lines r.stand r.yields r.gave;
        bytes = r.bytes;
        tells = r.tells;
        keeps = grown r.lines r.stand r.yields r.gave r.keeps;
      }

    ended_text : (t : S) (finish : Finish) (is_faulty : Bool) → h s ≡ false → is_faulty ≡ h t → (text : Option (List ℕ))
        → IfSome text (λ text. EndsAs (cut [] text).1 finish × Served gives s (cut [] text).0 t next old new before behind)
        → IfSome text (λ text. ComesToEnd found (f s) text new before behind finish is_faulty)
    ended_text t finish is_faulty none is None it = tt
    ended_text t finish is_faulty none is (Some text) it = subst (λ (b : Bool). ComesToEnd found (f s) text new before behind finish b) (sym is) (ends_so text t finish none it.0 it.1)

    stopped_text : (why : Failure) (text : Option (List ℕ)) → IfSome text (λ text. Stopped gives s (cut [] text).0 next old new before behind why)
        → IfSome text (λ text. Stops found (f s) text new before behind why)
    stopped_text why None it = tt
    stopped_text why (Some text) it = stops_so text why it

  -- the same from a stand that is told otherwise
  module _ (grow : BooksGrow) (found : Found) (s : S) (start : Stand) (starts : f s ≡ start) (next : ℕ) (old new : State) (before behind : Option (List ℕ)) (begun : IsBegun found next start old) (clean : HasCleanDisk new → HasCleanDisk old) where
    begun_so : IsBegun found next (f s) old
    begun_so = subst (λ (x : Stand). IsBegun found next x old) (sym starts) begun

    pub ended_seen : (t : S) (finish : Finish) (is_faulty : Bool) → h s ≡ false → is_faulty ≡ h t → (text : Option (List ℕ))
        → IfSome text (λ text. EndsAs (cut [] text).1 finish × Served gives s (cut [] text).0 t next old new before behind)
        → IfSome text (λ text. ComesToEnd found start text new before behind finish is_faulty)
    ended_seen t finish is_faulty none is text it =
        subst (λ (x : Stand). IfSome text (λ text. ComesToEnd found x text new before behind finish is_faulty)) starts (ended_text grow found s next old new before behind begun_so clean t finish is_faulty none is text it)

    pub stopped_seen : (why : Failure) (text : Option (List ℕ)) → IfSome text (λ text. Stopped gives s (cut [] text).0 next old new before behind why)
        → IfSome text (λ text. Stops found start text new before behind why)
    stopped_seen why text it =
        subst (λ (x : Stand). IfSome text (λ text. Stops found x text new before behind why)) starts (stopped_text grow found s next old new before behind begun_so clean why text it)

-- what holds of a text that comes in two parts
pub chained : (P : List ℕ → Type 0) (bytes : List ℕ) (all rest : Option (List ℕ)) → all ≡ option_append (Some bytes) rest → IfSome all P → IfSome rest (λ rest. P (bytes ++ rest))
chained P bytes all None is it = tt
chained P bytes all (Some rest) is it = subst (λ (o : Option (List ℕ)). IfSome o P) is it
