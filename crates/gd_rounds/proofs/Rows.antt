-- The rows of what is carried over.
use Rattle.std.proofs.Common.{◌≡◌, ℕ, ◌+◌, ◌<◌, List, [], ◌∷◌, ◌++◌, length, map, get_or, sym, ap, ap₂, ◌∙◌, arith}
use Rattle.std.specs.List.{range_with_len}
use Rattle.std.proofs.lemmas.List.FromFn.{map-range_with_len_more}
use Rattle.std.proofs.lemmas.Option.{get_or_from_slice_get}
use Rattle.gd_rules.specs.Lines.{Key, lines_of, no_key}
use Rattle.gd_rules.specs.Schedule.{quantity}
use Rattle.gd_machine.specs.Asking.{nominations}
use Rattle.gd_machine.specs.Day.{Day}
use Rattle.gd_machine.specs.History.{History, schedules}
use Rattle.gd_machine.specs.Machine.{IsLegal}
use Rattle.gd_replies.specs.declared.reply.Reply.{Reply}
use Rattle.gd_rounds.specs.Carried.{carry_row, carry_rows, latest}
use Rattle.gd_rounds.proofs.InEffect.{latest_is}
use Rattle.gd_rounds.proofs.Numbers.{slice_get_of}

abbrev pub row_at : List Key → List ℕ → ℕ → Reply
row_at keys quantities line = carry_row (get_or keys line no_key) (quantity quantities line)

-- those of so many lines
abbrev pub rows_until : List Key → List ℕ → ℕ → List Reply
rows_until keys quantities n = map (row_at keys quantities) (range_with_len 0 n)

pub row_more : (keys : List Key) (quantities : List ℕ) (n : ℕ) (key : Key) (q : ℕ) (rows after : List Reply) (row : Reply) → n < length keys → key ≡ get_or keys n key → q ≡ quantity quantities n → row ≡ carry_row key q
    → rows ≡ rows_until keys quantities n → after ≡ rows ++ row ∷ [] → after ≡ rows_until keys quantities (n + 1)
row_more keys quantities n key q rows after row low at amount is so_far pushed =
    let there : get_or keys n no_key ≡ key = get_or_from_slice_get keys n key no_key (slice_get_of keys n key low at) in
    let same : row ≡ row_at keys quantities n = is ∙ ap₂ carry_row (sym there) amount in
    pushed ∙ ap₂ (λ rs r. rs ++ r ∷ []) so_far same ∙ sym (map-range_with_len_more (row_at keys quantities) 0 n n (omega arith))

-- of all lines
pub rows_are : (day : Day) (h : History) → IsLegal day h → (keys : List Key) (quantities : List ℕ) (n : ℕ) → n ≡ length keys → keys ≡ lines_of (nominations day h) → quantities ≡ latest (schedules h) → rows_until keys quantities n ≡ carry_rows day h
rows_are day h legal keys quantities n all lines published =
    ap (λ k. rows_until keys quantities k) all ∙ ap (λ ks. rows_until ks quantities (length ks)) lines
    ∙ ap (λ qs. rows_until (lines_of (nominations day h)) qs (length (lines_of (nominations day h)))) (published ∙ latest_is day h legal)
