-- What clap makes of words whose first one names a command of the program: the others are left to that command.
use Rattle.std.proofs.Common.{◌≡◌, ◌∙◌, ◌&&◌, ◌++◌, Bool, true, false, [], ◌∷◌, List, Option, Some, refl, sym, ap, ap₂, find, fold, is_some}
use Rattle.std.specs.List.{list_all}
use Rattle.std.specs.Option.{option_map, option_map_or}
use Rattle.clap.specs.Walk.{Names, Row, Text, Walk, answers_to, finished, nothing_held, settled, walk, walk_from, walked}
use Rattle.clap.specs.Simple.{App, Shape, built, entered, label_of, names_of, rows_at}
use Rattle.clap.specs.Takes.{built_takes, default_passes, entered_passes, is_valid, level_passes, settle_passes, takes, turn_passes, walk_passes}
use Rattle.clap.specs.Faults.{built_fault, check_fault, defaults_fault, entered_fault, fault_of, level_fault, settle_fault, turn_fault, walk_fault}
use Rattle.clap.specs.Kinds.{Kinds, or_else}
use Rattle.clap.specs.Words.{subcommand_of}
use Rattle.clap.proofs.OnLiterals.{clap_on_literals}
use Rattle.clap.proofs.WalkLemmas.{walk_stopped}
use Rattle.clap.proofs.FaultLemmas.{stopped_fault}
use Rattle.gasday_words.specs.Meaning.{gasday, arguments}

-- where the walk over the words begins
abbrev pub begun : Walk
begun = walk_from nothing_held

-- The built command line b asks nothing of its own where words name a command: no option of its own has to be there.
pub record AsksNothing (b : App) : Type 0 where
  pub passes : (list_all default_passes b.top.rules && is_valid b.top (finished b.top.rules nothing_held) true) ≡ true
  pub faultless : or_else (defaults_fault [] b.top.rules) (check_fault b.top (finished b.top.rules nothing_held) true) ≡ []

-- A word is met as the name of the command s of the built command line b.
pub record Meets (b : App) (name : Text) (s : Shape) : Type 0 where
  pub stops : walked b.top.rules (names_of b) begun name ≡ record begun { stopped = Some (name, []) }
  pub passes : turn_passes b.top (names_of b) begun name ≡ true
  pub faultless : turn_fault b.top (names_of b) begun name ≡ []
  pub found : find (λ t. answers_to name (label_of t)) b.subs ≡ Some s

and_true : (x : Bool) → (x && true) ≡ x
and_true true = refl
and_true false = refl

else_none : (ks : Kinds) → or_else ks [] ≡ ks
else_none [] = refl
else_none (k ∷ ks) = refl

-- behind the name of a command each word passes
stopped_passes : (s : Shape) (names : Names) (w : Walk) (p : Text × List Text) (words : List Text) → walk_passes s names (record w { stopped = Some p }) words ≡ true
unfolding walk_passes walked
stopped_passes s names w p [] = refl
stopped_passes s names w p (x ∷ xs) = stopped_passes s names w (p.0, p.1 ++ x ∷ []) xs

module _ (b : App) (name : Text) (s : Shape) (asks : AsksNothing b) (meets : Meets b name s) (rest : List Text) where
  walk_is : walk b.top.rules (names_of b) nothing_held (name ∷ rest) ≡ record begun { stopped = Some (name, rest) }
  walk_is =
      ap (λ (w : Walk). fold (walked b.top.rules (names_of b)) w rest) meets.stops ∙ sym (walk_stopped b.top.rules (names_of b) begun name [] rest)

  entered_is : entered b (Some (name, rest)) ≡ Some (rows_at s rest)
  entered_is = ap (λ (o : Option Shape). option_map (λ t. rows_at t rest) o) meets.found

  stops_at : entered b (walk b.top.rules (names_of b) nothing_held (name ∷ rest)).stopped ≡ Some (rows_at s rest)
  stops_at = ap (λ (w : Walk). entered b w.stopped) walk_is ∙ entered_is

  walk_passes_all : walk_passes b.top (names_of b) begun (name ∷ rest) ≡ true
  unfolding walk_passes
  walk_passes_all = ap₂ (λ (p : Bool) (w : Walk). p && walk_passes b.top (names_of b) w rest) meets.passes meets.stops
      ∙ stopped_passes b.top (names_of b) begun (name, []) rest

  walk_is_faultless : walk_fault b.top (names_of b) begun (name ∷ rest) ≡ []
  unfolding walk_fault
  walk_is_faultless = ap₂ (λ (ks : Kinds) (w : Walk). or_else ks (walk_fault b.top (names_of b) w rest)) meets.faultless meets.stops
      ∙ stopped_fault b.top (names_of b) begun (name, []) rest

  -- the words pass where those behind the name do
  takes_rest : built_takes b nothing_held (name ∷ rest) ≡ level_passes s [] nothing_held rest false
  takes_rest =
      let own = λ (w : Walk). settle_passes b.top.rules b.top.args_override_self w.held
      && (list_all default_passes b.top.rules && is_valid b.top (finished b.top.rules w.held) (is_some (entered b w.stopped))) in
      ap (λ (w : Walk). entered_passes b w.stopped && (walk_passes b.top (names_of b) begun (name ∷ rest) && own w)) walk_is
      ∙ ap₂ (λ (p : Bool) (o : Option (Text × List Row)). entered_passes b (Some (name, rest)) && (p && (list_all default_passes b.top.rules
      && is_valid b.top (finished b.top.rules nothing_held) (is_some o)))) walk_passes_all entered_is
      ∙ ap (λ (p : Bool). entered_passes b (Some (name, rest)) && p) asks.passes
      ∙ and_true _
      ∙ ap (λ (o : Option Shape). option_map_or (λ t. level_passes t [] nothing_held rest false) o true) meets.found

  -- the kinds of their fault are those of the words behind the name
  fault_of_rest : built_fault b nothing_held (name ∷ rest) ≡ level_fault s [] nothing_held rest false []
  fault_of_rest =
      let own = λ (w : Walk). or_else (settle_fault b.top.rules b.top.args_override_self w.held)
      (or_else (defaults_fault (settled b.top.rules w.held).rows b.top.rules) (check_fault b.top (finished b.top.rules w.held) (is_some (entered b w.stopped)))) in
      ap (λ (w : Walk). or_else (walk_fault b.top (names_of b) begun (name ∷ rest)) (or_else (entered_fault b w.stopped) (own w))) walk_is
      ∙ ap₂ (λ (ks : Kinds) (o : Option (Text × List Row)). or_else ks (or_else (entered_fault b (Some (name, rest))) (or_else (defaults_fault [] b.top.rules)
      (check_fault b.top (finished b.top.rules nothing_held) (is_some o))))) walk_is_faultless entered_is
      ∙ ap (λ (ks : Kinds). or_else (entered_fault b (Some (name, rest))) ks) asks.faultless
      ∙ else_none _
      ∙ ap (λ (o : Option Shape). option_map_or (λ t. level_fault t [] nothing_held rest false []) o []) meets.found

-- Words that begin with the name of the command s are left to it.
pub record LeftTo (name : Text) (s : Shape) (words rest : List Text) : Type 0 where
  pub subcommand : subcommand_of gasday words ≡ Some (rows_at s rest)
  pub takes : takes gasday words ≡ level_passes s [] nothing_held rest false
  pub fault : fault_of gasday words ≡ level_fault s [] nothing_held rest false []

program_asks_nothing : AsksNothing (built gasday)
unfolding clap_on_literals
program_asks_nothing = record { passes = refl; faultless = refl }

pub left_to : (name : Text) (s : Shape) → Meets (built gasday) name s → (words rest : List Text) → arguments words ≡ name ∷ rest → LeftTo name s words rest
left_to name s meets words rest h =
    let b = built gasday in
    record {
      subcommand = ap (λ (ws : List Text). entered b (walk b.top.rules (names_of b) nothing_held ws).stopped) h ∙ stops_at b name s program_asks_nothing meets rest;
      takes = ap (λ (ws : List Text). built_takes b nothing_held ws) h ∙ takes_rest b name s program_asks_nothing meets rest;
      fault = ap (λ (ws : List Text). built_fault b nothing_held ws) h ∙ fault_of_rest b name s program_asks_nothing meets rest;
    }
