-- Words behind the name of a command that are no flags: how the walk goes on over them, without a look at their bytes.
use Rattle.std.proofs.Common.{◌≡◌, ◌==◌, ◌∙◌, ◌&&◌, ◌||◌, ℕ, Bool, true, false, [], ◌∷◌, List, Option, None, Some, refl, ap, ap₂, fold, map, is_some, not, cond}
use Rattle.std.specs.List.{list_all}
use Rattle.std.specs.Option.{option_and_then, option_map_or}
use Rattle.std.specs.Str.{bytes_eq}
use Rattle.clap.specs.Lexer.{long_of, long_of_rest, short_of, short_of_rest, strip_byte}
use Rattle.clap.specs.Walk.{Held, Row, Step, Text, Waiting, Walk, after_step, finished, idle, long_or_other, nothing_held, option, plain_word, positional, rows_after, settled}
use Rattle.clap.specs.Walk.{short_or_plain, subcommand_met, subcommand_or_other, trailing, walk_from, walked, walked_from, word_met}
use Rattle.clap.specs.Simple.{Shape}
use Rattle.clap.specs.Takes.{bundle_passes, default_passes, flag_word_passes, is_valid, level_passes, other_passes, settle_passes, step_passes, turn_passes, walk_passes, word_passes}
use Rattle.clap.specs.Faults.{bundle_fault, check_fault, defaults_fault, flag_word_fault, level_fault, other_fault, settle_fault, step_fault, turn_fault, walk_fault, word_fault}
use Rattle.clap.specs.Kinds.{Kinds, or_else}
use Rattle.clap.proofs.SimpleLemmas.{is_false}
use Rattle.clap.proofs.WalkLemmas.{both}

-- a word that isn't empty, and begins with no hyphen
pub record IsPlain (word : Text) : Type 0 where
  pub dashes : bytes_eq word (45 ∷ 45 ∷ []) ≡ false
  pub hyphen : strip_byte 45 word ≡ None

-- a word behind the name of a command: one whose bytes are looked at, or one of which only this is known
pub data Word : Type 0 where
  known : Text → Word
  plain : (word : Text) → IsPlain word → Word

abbrev pub text_of : Word → Text
text_of (known word) = word
text_of (plain word is_plain) = word

-- a word that begins with another byte
abbrev pub begins_otherwise : (a : ℕ) (rest : List ℕ) → (a == 45) ≡ false → IsPlain (a ∷ rest)
begins_otherwise a rest other = record {
  dashes = ap (λ (b : Bool). b && bytes_eq rest (45 ∷ [])) other;
  hyphen = ap (λ (b : Bool). cond b (Some rest) None) other;
}

-- any word that doesn't begin with this byte
abbrev pub named : (a : ℕ) (rest : List ℕ) → (a == 45) ≡ false → Word
named a rest other = plain (a ∷ rest) (begins_otherwise a rest other)

-- what a plain word is met as
abbrev met : Shape → Walk → Text → Held × Step
met s w word = plain_word s.rules w.waiting word w.held

-- the walk behind one more word
abbrev pub next : Shape → Walk → Word → Walk
next s w (known word) = walked s.rules [] w word
next s w (plain word is_plain) = after_step s.rules word w (met s w word).0 (met s w word).1

-- words go on to be read, and none was met behind which they aren't
abbrev is_open : Walk → Bool
is_open w = not w.is_trailing && not (is_some w.stopped)

abbrev pub passes : Shape → Walk → Word → Bool
passes s w (known word) = turn_passes s [] w word
passes s w (plain word is_plain) = is_open w && step_passes s w.position (met s w word).0 (met s w word).1

abbrev pub fault : Shape → Walk → Word → Kinds
fault s w (known word) = turn_fault s [] w word
fault s w (plain word is_plain) = step_fault s w.position (met s w word).0 (met s w word).1

-- the same along words
abbrev pub all_pass : Shape → Walk → List Word → Bool
all_pass s w [] = true
all_pass s w (v ∷ vs) = passes s w v && all_pass s (next s w v) vs

abbrev pub first_fault : Shape → Walk → List Word → Kinds
first_fault s w [] = []
first_fault s w (v ∷ vs) = or_else (fault s w v) (first_fault s (next s w v) vs)

-- ---- one plain word

none_met : (waiting : Waiting) (word : Text) → subcommand_met [] waiting word ≡ None
none_met idle word = refl
none_met (option id) word = refl
none_met positional word = refl

module _ (s : Shape) (w : Walk) (word : Text) (p : IsPlain word) (goes_on : is_open w ≡ true) where
  on : w.is_trailing ≡ false
  on = is_false _ (both _ _ goes_on).0

  none : (o : Option (Text × List Text)) → not (is_some o) ≡ true → o ≡ None
  none None e = refl
  none (Some q) e = cc

  unstopped : w.stopped ≡ None
  unstopped = none _ (both (not w.is_trailing) _ goes_on).1

  no_long : long_of word ≡ None
  no_long = ap (λ (o : Option Text). option_and_then long_of_rest (option_and_then (strip_byte 45) o)) p.hyphen

  no_short : short_of word ≡ None
  no_short = ap (λ (o : Option Text). option_and_then short_of_rest o) p.hyphen

  met_is : word_met s.rules [] w.is_trailing w.waiting w.position word w.held ≡ met s w word
  met_is =
      ap (λ (b : Bool). word_met s.rules [] b w.waiting w.position word w.held) on
      ∙ ap (λ (o : Option Text). subcommand_or_other s.rules o w.waiting w.position word w.held) (none_met w.waiting word)
      ∙ ap (λ (b : Bool). cond b (w.held, trailing w.position) (long_or_other s.rules w.waiting word (long_of word) w.held)) p.dashes
      ∙ ap (λ (o : Option (Text × Option Text)). long_or_other s.rules w.waiting word o w.held) no_long
      ∙ ap (λ (o : Option Text). short_or_plain s.rules w.waiting word o w.held) no_short

  next_is : walked s.rules [] w word ≡ next s w (plain word p)
  unfolding walked
  next_is = ap (λ (o : Option (Text × List Text)). walked_from s.rules [] o w word) unstopped
      ∙ ap (λ (m : Held × Step). after_step s.rules word w m.0 m.1) met_is

  word_passes_is : word_passes s [] w.is_trailing w.waiting word w.held ≡ true
  word_passes_is =
      ap (λ (b : Bool). b || other_passes s (subcommand_met [] w.waiting word) word w.held) on
      ∙ ap (λ (o : Option Text). other_passes s o word w.held) (none_met w.waiting word)
      ∙ ap (λ (b : Bool). b || flag_word_passes s.rules s.args_override_self (long_of word) word w.held) p.dashes
      ∙ ap (λ (o : Option (Text × Option Text)). flag_word_passes s.rules s.args_override_self o word w.held) no_long
      ∙ ap (λ (o : Option Text). option_map_or (λ flags. bundle_passes s.rules s.args_override_self flags w.held) o true) no_short

  turn_is : turn_passes s [] w word ≡ step_passes s w.position (met s w word).0 (met s w word).1
  turn_is =
      ap (λ (o : Option (Text × List Text)). is_some o || (word_passes s [] w.is_trailing w.waiting word w.held
      && step_passes s w.position (word_met s.rules [] w.is_trailing w.waiting w.position word w.held).0
      (word_met s.rules [] w.is_trailing w.waiting w.position word w.held).1)) unstopped
      ∙ ap₂ (λ (b : Bool) (m : Held × Step). b && step_passes s w.position m.0 m.1) word_passes_is met_is

  word_fault_is : word_fault s [] w.is_trailing w.waiting word w.held ≡ []
  word_fault_is =
      ap (λ (b : Bool). cond b [] (other_fault s (subcommand_met [] w.waiting word) word w.held)) on
      ∙ ap (λ (o : Option Text). other_fault s o word w.held) (none_met w.waiting word)
      ∙ ap (λ (b : Bool). cond b [] (flag_word_fault s.rules s.args_override_self (long_of word) word w.held)) p.dashes
      ∙ ap (λ (o : Option (Text × Option Text)). flag_word_fault s.rules s.args_override_self o word w.held) no_long
      ∙ ap (λ (o : Option Text). option_map_or (λ flags. bundle_fault s.rules s.args_override_self flags w.held) o []) no_short

  turn_fault_is : turn_fault s [] w word ≡ step_fault s w.position (met s w word).0 (met s w word).1
  turn_fault_is =
      ap (λ (o : Option (Text × List Text)). cond (is_some o) [] (or_else (word_fault s [] w.is_trailing w.waiting word w.held)
      (step_fault s w.position (word_met s.rules [] w.is_trailing w.waiting w.position word w.held).0
      (word_met s.rules [] w.is_trailing w.waiting w.position word w.held).1))) unstopped
      ∙ ap₂ (λ (ks : Kinds) (m : Held × Step). or_else ks (step_fault s w.position m.0 m.1)) word_fault_is met_is

-- ---- all words

along : (s : Shape) (w : Walk) (vs : List Word) → all_pass s w vs ≡ true
    → (fold (walked s.rules []) w (map text_of vs) ≡ fold (next s) w vs)
    × (walk_passes s [] w (map text_of vs) ≡ true) × (walk_fault s [] w (map text_of vs) ≡ first_fault s w vs)
unfolding walk_passes walk_fault
along s w [] pass = (refl, refl, refl)
along s w (known word ∷ vs) pass =
    let now = both (turn_passes s [] w word) _ pass in
    let rest = along s (walked s.rules [] w word) vs now.1 in (
      rest.0,
      ap₂ (λ (a b : Bool). a && b) now.0 rest.1,
      ap (λ (ks : Kinds). or_else (turn_fault s [] w word) ks) rest.2,
    )
along s w (plain word p ∷ vs) pass =
    let now = both (passes s w (plain word p)) _ pass in
    let this = both (is_open w) _ now.0 in
    let rest = along s (next s w (plain word p)) vs now.1 in
    let on = next_is s w word p this.0 in (
      ap (λ (v : Walk). fold (walked s.rules []) v (map text_of vs)) on ∙ rest.0,
      ap₂ (λ (a : Bool) (v : Walk). a && walk_passes s [] v (map text_of vs)) (turn_is s w word p this.0 ∙ this.1) on ∙ rest.1,
      ap₂ (λ (ks : Kinds) (v : Walk). or_else ks (walk_fault s [] v (map text_of vs))) (turn_fault_is s w word p this.0) on
          ∙ ap (λ (ks : Kinds). or_else (step_fault s w.position (met s w word).0 (met s w word).1) ks) rest.2,
    )

-- what is held behind the words
abbrev pub held : Shape → List Word → Held
held s vs = (fold (next s) (walk_from nothing_held) vs).held

-- the rows that the words give
abbrev pub rows : Shape → List Word → List Row
rows s vs = finished s.rules (held s vs)

-- whether they pass
abbrev pub level : Shape → List Word → Bool
level s vs = all_pass s (walk_from nothing_held) vs && (settle_passes s.rules s.args_override_self (held s vs)
    && (list_all default_passes s.rules && is_valid s (rows s vs) false))

-- the kinds of their fault
abbrev pub faults : Shape → List Word → Kinds
faults s vs = or_else (first_fault s (walk_from nothing_held) vs) (or_else (settle_fault s.rules s.args_override_self (held s vs))
    (or_else (defaults_fault (settled s.rules (held s vs)).rows s.rules) (check_fault s (rows s vs) false)))

module _ (s : Shape) (vs : List Word) (pass : level s vs ≡ true) where
  parts : (all_pass s (walk_from nothing_held) vs ≡ true) × ((settle_passes s.rules s.args_override_self (held s vs)
      && (list_all default_passes s.rules && is_valid s (rows s vs) false)) ≡ true)
  parts = both _ _ pass

  walk_is : fold (walked s.rules []) (walk_from nothing_held) (map text_of vs) ≡ fold (next s) (walk_from nothing_held) vs
  walk_is = (along s (walk_from nothing_held) vs parts.0).0

  pub rows_are : rows_after s.rules [] (map text_of vs) ≡ rows s vs
  rows_are = ap (λ (w : Walk). finished s.rules w.held) walk_is

  pub level_is : level_passes s [] nothing_held (map text_of vs) false ≡ true
  level_is =
      let all = along s (walk_from nothing_held) vs parts.0 in
      ap₂ (λ (b : Bool) (w : Walk). b && (settle_passes s.rules s.args_override_self w.held
      && (list_all default_passes s.rules && is_valid s (finished s.rules w.held) false))) all.1 walk_is
      ∙ parts.1

  pub fault_is : level_fault s [] nothing_held (map text_of vs) false [] ≡ faults s vs
  fault_is =
      let all = along s (walk_from nothing_held) vs parts.0 in
      ap₂ (λ (ks : Kinds) (w : Walk). or_else ks (or_else (settle_fault s.rules s.args_override_self w.held)
      (or_else (defaults_fault (settled s.rules w.held).rows s.rules) (check_fault s (finished s.rules w.held) false)))) all.2 walk_is
