-- References that are defined.
use Rattle.std.proofs.Common.{◌≡◌, ℕ, Bool, true, false, List, [], refl}
use Rattle.entry_rules.specs.Unknown.{unless}

pub is_defined : (known : Bool) (words : List (List ℕ)) → unless known words ≡ [] → known ≡ true
is_defined true words e = refl
is_defined false words e = cc
