-- Postings are kept one after the other.
use Rattle.std.proofs.Common.{◌≡◌, ◌≤◌, ◌<◌, ◌+◌, ◌==◌, ℕ, zero, suc, max, true, false, Bool, List, [], ◌∷◌, ◌++◌, length, drop, get_or, Option, Some, None, IfSome, IsSome, All, refl, sym, subst, ◌∙◌, ap, append_assoc, inl, inr, arith}
use Rattle.std.proofs.Math.Seq.{drop-cons}
use Rattle.std.proofs.lemmas.Bool.{false≢true}
use Rattle.std.proofs.lemmas.Grind.{flat_map-append}
use Rattle.std.proofs.lemmas.List.{append-nil}
use Rattle.std.proofs.lemmas.List.Elements.{All-head, All-tail}
use Rattle.std.proofs.lemmas.List.Sums.{fold-append}
use Rattle.sqlite_trees.specs.declared.store.Store.{Ghosts}
use Rattle.sqlite.specs.Held.{Held}
use Rattle.gd_board.specs.Known.{Knowledge, StaysKnown, known_of}
use Rattle.gd_board.specs.declared.posting.Posting.{Posting}
use Rattle.gd_replies.specs.declared.reply.Reply.{Reply}
use Rattle.gd_archive.specs.declared.repeat.Repeat.TheVariants.{Same, Other}
use Rattle.gasday_archive.specs.declared.keeps.KeepAnswer.{KeepAnswer}
use Rattle.gasday_archive.specs.declared.keeps.KeepAnswer.TheVariants as keep_answer
use Rattle.gasday_archive.specs.Keeping.{KeepsAll, KeepsTold, IsKnownIn, IsThere, Tries, keep_rows, all_keep_rows, keep_status, answer_status, is_last}

-- what ends with 2 is last, for a strict gas day as for any
pub last_by : (strict : Bool) (answer : KeepAnswer) → is_last answer ≡ (answer_status strict answer == 2)
last_by strict keep_answer.Kept = refl
last_by true (keep_answer.Before None) = refl
last_by true (keep_answer.Before (Some Same)) = refl
last_by true (keep_answer.Before (Some (Other kept published))) = refl
last_by false (keep_answer.Before found) = refl
last_by strict (keep_answer.Refused fault) = refl

-- So many of these cycles are kept, and none ended it: what is kept of the others goes on from here.
pub record SoFar {S : Type 0} (g : Ghosts S) (strict : Bool) (Is : ℕ → Posting → Type 0) (cycles : List ℕ) (i : ℕ) (old now : Held S) (former told : List Reply) (status : ℕ) : Type 0 where
  pub answers : List KeepAnswer
  pub goes_on : (more : List KeepAnswer) (new : Held S) → KeepsAll g Is (drop i cycles) now more new → KeepsAll g Is cycles old (answers ++ more) new
  pub rows : told ≡ former ++ all_keep_rows answers
  pub ends : status ≡ keep_status strict answers

pub at_first : {S : Type 0} (g : Ghosts S) (strict : Bool) (Is : ℕ → Posting → Type 0) (cycles : List ℕ) (old : Held S) (former : List Reply) → SoFar g strict Is cycles 0 old old former former 0
at_first g strict Is cycles old former = record { answers = []; goes_on = λ more new keeps. keeps; rows = sym (append-nil former); ends = refl }

rows_more : (former told after : List Reply) (answers : List KeepAnswer) (answer : KeepAnswer) → told ≡ former ++ all_keep_rows answers → after ≡ told ++ keep_rows answer → after ≡ former ++ all_keep_rows (answers ++ answer ∷ [])
rows_more former told after answers answer rows more =
    more ∙ ap (λ t. t ++ keep_rows answer) rows ∙ append_assoc former (all_keep_rows answers) (keep_rows answer)
    ∙ ap (λ t. former ++ t) (ap (λ t. all_keep_rows answers ++ t) (sym (append-nil (keep_rows answer))) ∙ sym (flat_map-append keep_rows answers (answer ∷ [])))

status_more : (strict : Bool) (status after : ℕ) (answers : List KeepAnswer) (answer : KeepAnswer) → status ≡ keep_status strict answers → after ≡ max status (answer_status strict answer) → after ≡ keep_status strict (answers ++ answer ∷ [])
status_more strict status after answers answer is more =
    more ∙ ap (λ n. max n (answer_status strict answer)) is ∙ sym (fold-append (λ n (a : KeepAnswer). max n (answer_status strict a)) 0 answers (answer ∷ []))

next_place : (i : ℕ) → i + 1 ≡ suc i
next_place i = omega arith

-- a cycle's posting is kept, and the others may be
pub one_more : {S : Type 0} (g : Ghosts S) (strict : Bool) (Is : ℕ → Posting → Type 0) (cycles : List ℕ) (i cycle : ℕ) (old now mid : Held S) (former told after : List Reply) (status next : ℕ) (posting : Posting) (answer : KeepAnswer) → i < length cycles → cycle ≡ get_or cycles i cycle → SoFar g strict Is cycles i old now former told status
    → Is cycle posting → Tries g now mid posting answer → is_last answer ≡ false → after ≡ told ++ keep_rows answer → next ≡ max status (answer_status strict answer) → SoFar g strict Is cycles (i + 1) old mid former after next
one_more g strict Is cycles i cycle old now mid former told after status next posting answer lt here sofar is keeps last rows ends = record {
  answers = sofar.answers ++ answer ∷ [];
  goes_on = λ more new later.
      subst (λ answers. KeepsAll g Is cycles old answers new) (sym (append_assoc sofar.answers (answer ∷ []) more))
      (sofar.goes_on (answer ∷ more) new
      (subst (λ rest. KeepsAll g Is rest now (answer ∷ more) new) (sym (drop-cons cycles i cycle lt))
      (posting, answer, more, mid, refl, subst (λ c. Is c posting) here is, keeps, inr (last, subst (λ n. KeepsAll g Is (drop n cycles) mid more new) (next_place i) later))));
  rows = rows_more former told after sofar.answers answer sofar.rows rows;
  ends = status_more strict status next sofar.answers answer sofar.ends ends;
}

-- a cycle's posting is the last one that is kept or refused
pub ended : {S : Type 0} (g : Ghosts S) (strict : Bool) (Is : ℕ → Posting → Type 0) (cycles : List ℕ) (i cycle : ℕ) (old now new : Held S) (former told after : List Reply) (status next : ℕ) (posting : Posting) (answer : KeepAnswer) → i < length cycles → cycle ≡ get_or cycles i cycle → SoFar g strict Is cycles i old now former told status
    → Is cycle posting → Tries g now new posting answer → is_last answer ≡ true → after ≡ told ++ keep_rows answer → next ≡ max status (answer_status strict answer) → KeepsTold g strict Is cycles old new former after next
ended g strict Is cycles i cycle old now new former told after status next posting answer lt here sofar is keeps last rows ends = record {
  answers = sofar.answers ++ answer ∷ [];
  keeps =
      sofar.goes_on (answer ∷ []) new
      (subst (λ rest. KeepsAll g Is rest now (answer ∷ []) new) (sym (drop-cons cycles i cycle lt))
      (posting, answer, [], new, refl, subst (λ c. Is c posting) here is, keeps, inl (last, refl, refl)));
  rows = rows_more former told after sofar.answers answer sofar.rows rows;
  ends = status_more strict status next sofar.answers answer sofar.ends ends;
}

none_left : (cycles : List ℕ) (i : ℕ) → length cycles ≤ i → drop i cycles ≡ []
none_left [] zero past = refl
none_left [] (suc i) past = refl
none_left (c ∷ cycles) zero past = absurd (omega (arith, past))
none_left (c ∷ cycles) (suc i) past = none_left cycles i (omega (arith, past))

-- all are kept
pub all_done : {S : Type 0} (g : Ghosts S) (strict : Bool) (Is : ℕ → Posting → Type 0) (cycles : List ℕ) (i : ℕ) (old new : Held S) (former told : List Reply) (status : ℕ) → length cycles ≤ i → SoFar g strict Is cycles i old new former told status → KeepsTold g strict Is cycles old new former told status
all_done g strict Is cycles i old new former told status past sofar = record {
  answers = sofar.answers;
  keeps =
      subst (λ answers. KeepsAll g Is cycles old answers new) (append-nil sofar.answers)
      (sofar.goes_on [] new (subst (λ rest. KeepsAll g Is rest new [] new) (sym (none_left cycles i past)) (refl, refl)));
  rows = sofar.rows;
  ends = sofar.ends;
}

-- what is known of each cycle's posting is as much as is wanted
abbrev pub Suffices : (Is As : ℕ → Posting → Type 0) → ℕ → Type 0
Suffices Is As cycle = (posting : Posting) → Is cycle posting → As cycle posting

weaker : {S : Type 0} (g : Ghosts S) (Is As : ℕ → Posting → Type 0) (cycles : List ℕ) (old new : Held S) (answers : List KeepAnswer) → All (Suffices Is As) cycles → KeepsAll g Is cycles old answers new → KeepsAll g As cycles old answers new
weaker g Is As [] old new answers all keeps = keeps
weaker g Is As (cycle ∷ cycles) old new answers all (posting, answer, more, mid, are, is, kept, inl last) =
    (posting, answer, more, mid, are, All-head (Suffices Is As) cycle cycles all posting is, kept, inl last)
weaker g Is As (cycle ∷ cycles) old new answers all (posting, answer, more, mid, are, is, kept, inr later) =
    (posting, answer, more, mid, are, All-head (Suffices Is As) cycle cycles all posting is, kept, inr (later.0, weaker g Is As cycles mid new more (All-tail (Suffices Is As) cycle cycles all) later.1))

pub told_weaker : {S : Type 0} (g : Ghosts S) (strict : Bool) (Is As : ℕ → Posting → Type 0) (cycles : List ℕ) (old new : Held S) (former told : List Reply) (status : ℕ) → All (Suffices Is As) cycles → KeepsTold g strict Is cycles old new former told status → KeepsTold g strict As cycles old new former told status
told_weaker g strict Is As cycles old new former told status all keeps = record {
  answers = keeps.answers;
  keeps = weaker g Is As cycles old new keeps.answers all keeps.keeps;
  rows = keeps.rows;
  ends = keeps.ends;
}

-- ---- what is known

stay_there : (o later : Option Posting) → IsSome o → IfSome o (λ posting. later ≡ Some posting) → IsSome later
stay_there None later some stays = absurd (false≢true some)
stay_there (Some posting) later some stays = subst IsSome (sym stays) refl

-- what was there is there
pub there_still : (old now : Knowledge) (cycle : ℕ) → StaysKnown old now → IsThere old cycle → IsThere now cycle
there_still old now cycle stays is = (is.0, stay_there (known_of old cycle) (known_of now cycle) is.1 (stays cycle is.0))

same_as_then : (o now : Option Posting) (posting : Posting) → IsSome o → IfSome o (λ former. now ≡ Some former) → now ≡ Some posting → o ≡ Some posting
same_as_then None now posting some stays is = absurd (false≢true some)
same_as_then (Some former) now posting some stays is = sym stays ∙ is

-- what is known now was known
pub known_then : (old now : Knowledge) (cycle : ℕ) (posting : Posting) → StaysKnown old now → IsThere old cycle → IsKnownIn now cycle posting → IsKnownIn old cycle posting
known_then old now cycle posting stays there is = same_as_then (known_of old cycle) (known_of now cycle) posting there.1 (stays cycle there.0) is

pub stay_trans : (a b c : Knowledge) → StaysKnown a b → StaysKnown b c → StaysKnown a c
stay_trans a b c first second cycle within = both (known_of a cycle) (known_of b cycle) (known_of c cycle) (first cycle within) (second cycle within)
  where
    both : (x y z : Option Posting) → IfSome x (λ p. y ≡ Some p) → IfSome y (λ p. z ≡ Some p) → IfSome x (λ p. z ≡ Some p)
    both None y z one two = tt
    both (Some p) y z one two = subst (λ o. IfSome o (λ q. z ≡ Some q)) one two
