-- What the matches say of a subcommand, as its name and rows.
use Rattle.std.proofs.Common.{◌≡◌, List, Option, Some, None, option_map, ap₂, sym, ◌∙◌, refl}
use Rattle.std.proofs.lemmas.Option.{same_Some}
use Rattle.clap.specs.Words.{Row, Text, subcommand_rows_of, subcommand_rows}
use Rattle.clap.specs.Matches.{subcommand_name_of}
use Rattle.clap.specs.declared.parser.matches.ArgMatches.{ArgMatches}
use Rattle.clap.specs.declared.parser.matches.ArgMatches.TheViews.{out-ArgMatches}

abbrev pair : {B : Type 0} → (B → Text) → (B → List Row) → B → Text × List Row
pair f g b = (f b, g b)

-- a pair whose parts are known
joined : {B : Type 0} (f : B → Text) (g : B → List Row) (o : Option B) (name : Text) (rows : List Row)
    → option_map f o ≡ Some name → option_map g o ≡ Some rows → option_map (pair f g) o ≡ Some (name, rows)
joined f g None name rows e h = cc
joined f g (Some b) name rows e h = ap₂ (λ (n : Text) (r : List Row). Some (n, r)) (same_Some _ _ e) (same_Some _ _ h)

second : {B : Type 0} (f : B → Text) (g : B → List Row) (o : Option B) → option_map (λ p. p.1) (option_map (pair f g) o) ≡ option_map g o
second f g None = refl
second f g (Some b) = refl

pub rows_are : (m : ArgMatches) (name : Text) (rows : List Row) → Some name ≡ subcommand_name_of m → Some rows ≡ option_map (λ p. p.1) (subcommand_rows (out-ArgMatches m).subcommand) → subcommand_rows_of m ≡ Some (name, rows)
rows_are m name rows e h = joined _ _ (out-ArgMatches m).subcommand name rows (sym e) (sym (second _ _ (out-ArgMatches m).subcommand) ∙ sym h)
