-- A carried quantity, from the map that keeps it.
use Rattle.std.proofs.Common.{◌≡◌, ℕ, Bool, true, false, cond, List, [], ◌∷◌, Some, refl}
use Rattle.std.specs.List.{find}
use Rattle.std.specs.Option.{option_map, unwrap_or}
use Rattle.std.specs.Map.{lookup}
use Rattle.gd_rules.specs.Lines.{Key, same_key}

pub find_lookup : (key : Key) (es : List (Key × ℕ)) → unwrap_or (option_map (λ e. e.1) (find (λ e. same_key key e.0) es)) 0 ≡ unwrap_or (lookup (same_key key) es) 0
find_lookup key [] = refl
find_lookup key (e ∷ es) = go (same_key key e.0) (find_lookup key es)
  where
    go : (v : Bool) → unwrap_or (option_map (λ x. x.1) (find (λ x. same_key key x.0) es)) 0 ≡ unwrap_or (lookup (same_key key) es) 0
        → unwrap_or (option_map (λ x. x.1) (cond v (Some e) (find (λ x. same_key key x.0) es))) 0 ≡ unwrap_or (cond v (Some e.1) (lookup (same_key key) es)) 0
    go true ih = refl
    go false ih = ih
