-- Writing replies one after the other.
use Rattle.std.proofs.Common.{◌≡◌, ℕ, ◌+◌, ◌<◌, ◌≤◌, List, [], ◌∷◌, ◌++◌, Option, take, drop, length, get_or, refl, sym, ap, ◌∙◌, append_assoc, inl, inr}
use Rattle.std.specs.Io.KnownBytes.{Appends}
use Rattle.std.proofs.KnownBytes.{Appends-trans}
use Rattle.std.proofs.lemmas.Grind.{flat_map-append}
use Rattle.std.proofs.lemmas.List.{take-append-drop, take_more, take_all, append-nil, take-append-le}
use Rattle.std.proofs.Math.Seq.{take-append-add}
use Rattle.gd_replies.specs.declared.reply.Reply.{Reply}
use Rattle.gd_replies.specs.Lines.{line_of, lines_of}
use Rattle.std.proofs.KnownBytes.{Appends-nil}
use Rattle.gasday_part.specs.Answers.{Told, no_memory}
use Rattle.gasday_part.specs.Output.{TellsShort, Written}

lines-append : (a b : List Reply) → lines_of (a ++ b) ≡ lines_of a ++ lines_of b
lines-append a b = flat_map-append line_of a b

pub lines_more : (replies : List Reply) (i : ℕ) (r : Reply) → i < length replies → r ≡ get_or replies i r → lines_of (take (i + 1) replies) ≡ lines_of (take i replies) ++ line_of r
lines_more replies i r lt is =
    ap lines_of (take_more replies i r lt ∙ ap (λ (x : Reply). take i replies ++ x ∷ []) (sym is))
    ∙ lines-append (take i replies) (r ∷ []) ∙ ap (λ t. lines_of (take i replies) ++ t) (append-nil (line_of r))

-- part of what comes behind the first replies was written
part : (front some more : List ℕ) (n : ℕ) → n ≤ length some → take (length front + n) (front ++ (some ++ more)) ≡ front ++ take n some
part front some more n le = take-append-add front (some ++ more) n ∙ ap (λ t. front ++ t) (take-append-le n some more le)

-- memory ran out after the first i replies
pub no_memory_after : (old mid new : Option (List ℕ)) (answer : Told) (i n : ℕ)
    → Appends old mid (lines_of (take i answer.replies)) → Appends mid new (take n (lines_of (no_memory ∷ []))) → Written old new 2 answer
no_memory_after old mid new answer i n before now =
    inr (inl (i, n, Appends-trans old mid new (lines_of (take i answer.replies)) (take n (lines_of (no_memory ∷ []))) before now, refl))

-- memory ran out before there was any reply
pub told_none : (old new : Option (List ℕ)) (answer : Told) (n : ℕ) → Appends old new (take n (lines_of (no_memory ∷ []))) → Written old new 2 answer
told_none old new answer n now = no_memory_after old old new answer 0 n (Appends-nil old) now

-- ---- replies with more behind them, of which the first were written, and the next ones wait in a block

front : (replies more : List Reply) (i : ℕ) → i ≤ length replies → take i (replies ++ more) ≡ take i replies
front replies more i le = take-append-le i replies more le

-- What was written is at the front of the first i replies, and the block is what follows it of them.
pub record IsPrinted (old new : Option (List ℕ)) (replies : List Reply) (i : ℕ) (block : List ℕ) : Type 0 where
  pub done : List ℕ
  pub told : Appends old new done
  pub all : done ++ block ≡ lines_of (take i replies)

pub printed_none : (old : Option (List ℕ)) (replies : List Reply) (block : List ℕ) → block ≡ [] → IsPrinted old old replies 0 block
printed_none old replies block none = record { done = []; told = Appends-nil old; all = none }

-- one more reply goes into the block
pub printed_more : (old new : Option (List ℕ)) (replies : List Reply) (i : ℕ) (block more : List ℕ) (r : Reply) → i < length replies → r ≡ get_or replies i r
    → more ≡ block ++ line_of r → IsPrinted old new replies i block → IsPrinted old new replies (i + 1) more
printed_more old new replies i block more r lt is added here = record {
  done = here.done;
  told = here.told;
  all = ap (λ l. here.done ++ l) added ∙ sym (append_assoc here.done block (line_of r)) ∙ ap (λ l. l ++ line_of r) here.all ∙ sym (lines_more replies i r lt is);
}

-- the block is written
pub printed_on : (old mid new : Option (List ℕ)) (replies : List Reply) (i : ℕ) (block empty : List ℕ) → empty ≡ [] → Appends mid new block
    → IsPrinted old mid replies i block → IsPrinted old new replies i empty
printed_on old mid new replies i block empty none now here = record {
  done = here.done ++ block;
  told = Appends-trans old mid new here.done block here.told now;
  all = ap (λ l. (here.done ++ block) ++ l) none ∙ append-nil (here.done ++ block) ∙ here.all;
}

-- the writer failed in the block
pub stops_short : (old mid new : Option (List ℕ)) (replies more : List Reply) (status i n : ℕ) (block : List ℕ) → i ≤ length replies → n ≤ length block
    → IsPrinted old mid replies i block → Appends mid new (take n block) → Written old new 2 (record { replies = replies ++ more; status = status })
stops_short old mid new replies more status i n block low le here now =
    let all = replies ++ more in
    let rest = lines_of (drop i all) in
    let whole : lines_of all ≡ here.done ++ (block ++ rest) =
    ap lines_of (sym (take-append-drop i all)) ∙ lines-append (take i all) (drop i all)
    ∙ ap (λ (l : List Reply). lines_of l ++ rest) (front replies more i low) ∙ ap (λ l. l ++ rest) (sym here.all) ∙ append_assoc here.done block rest in
    let bytes : take (length here.done + n) (lines_of all) ≡ here.done ++ take n block =
    ap (take (length here.done + n)) whole ∙ part here.done block rest n le in
    inr (inr (length here.done + n, rw (sym bytes) at (Appends-trans old mid new here.done (take n block) here.told now), refl))

-- memory ran out behind the first i replies, whatever was to come behind all
pub short_of : (old mid new : Option (List ℕ)) (replies more : List Reply) (status i : ℕ) (block : List ℕ) → i ≤ length replies
    → IsPrinted old mid replies i block → TellsShort mid new block → Written old new 2 (record { replies = replies ++ more; status = status })
short_of old mid new replies more status i block low here (inl (m, now)) =
    let row = take m (lines_of (no_memory ∷ [])) in
    let bytes : here.done ++ (block ++ row) ≡ lines_of (take i (replies ++ more)) ++ row =
    sym (append_assoc here.done block row) ∙ ap (λ l. l ++ row) here.all ∙ ap (λ (l : List Reply). lines_of l ++ row) (sym (front replies more i low)) in
    inr (inl (i, m, rw bytes at (Appends-trans old mid new here.done (block ++ row) here.told now), refl))
short_of old mid new replies more status i block low here (inr (n, le, now)) = stops_short old mid new replies more status i n block low le here now

-- all replies were written, and none was to come behind them
pub all_told : (old mid new : Option (List ℕ)) (replies : List Reply) (status i : ℕ) (block : List ℕ) → length replies ≤ i → IsPrinted old mid replies i block → Appends mid new block
    → Written old new status (record { replies = replies ++ []; status = status })
all_told old mid new replies status i block le here now =
    let bytes : here.done ++ block ≡ lines_of (replies ++ []) = here.all ∙ ap lines_of (take_all i replies le ∙ sym (append-nil replies)) in
    inl (rw bytes at (Appends-trans old mid new here.done block here.told now), refl)
