-- Lists, flags, masks and clauses without meaning, which several DEF statements share.
use Rattle.std.specs.Prelude.{◌≡◌, ℕ, Bool, true, false, List, [], ◌∷◌, Option, Some, None, codes, refl}
use Rattle.form_meanings.specs.Words.{is_plain}
use Rattle.form_meanings.specs.Meaning.{Seen}
use Rattle.statement_model.specs.Form.{Form, word, ◌⨟◌, seen, opt_on}
use Rattle.def_grammar.specs.Parts.{rest}

-- several values, or none
abbrev pub list_of : {A : Type 0} → Option (A × List A) → List A
list_of None = []
list_of (Some x) = x.0 ∷ x.1

abbrev pub parts_of : {A : Type 0} → List A → Option (A × List A)
parts_of [] = None
parts_of (a ∷ all) = Some (a, all)

pub same_list : {A : Type 0} (xs : List A) → list_of (parts_of xs) ≡ xs
same_list [] = refl
same_list (a ∷ all) = refl

pub same_parts : {A : Type 0} (x : Option (A × List A)) → parts_of (list_of x) ≡ x
same_parts None = refl
same_parts (Some x) = refl

abbrev pub as_list : {A : Type 0} → Seen (Option (A × List A)) (List A)
as_list {A = A} = record { to = list_of; from = parts_of; to_from = same_list; from_to = same_parts }

-- a word stands there or not
abbrev pub stands : Option (Unit {0}) → Bool
stands None = false
stands (Some u) = true

abbrev pub standing : Bool → Option (Unit {0})
standing false = None
standing true = Some tt

pub same_flag : (b : Bool) → stands (standing b) ≡ b
same_flag false = refl
same_flag true = refl

pub same_standing : (o : Option (Unit {0})) → standing (stands o) ≡ o
same_standing None = refl
same_standing (Some u) = refl

abbrev pub as_flag : Seen (Option (Unit {0})) Bool
as_flag = record { to = stands; from = standing; to_from = same_flag; from_to = same_standing }

-- [MASK word]
abbrev pub mask : Form (Option (List ℕ))
mask = opt_on (codes "MASK") (word is_plain)

-- a clause without meaning, by its word and its other tokens
pub record KeptClause : Type 0 where
  pub keyword : List ℕ
  pub rest : List (List ℕ)

abbrev pub as_kept_clause : Seen (List ℕ × List (List ℕ)) KeptClause
as_kept_clause = record { to = λ p. record { keyword = p.0; rest = p.1 }; from = λ c. (c.keyword, c.rest); to_from = λ c. refl; from_to = λ p. refl }

-- word rest, after a +
unfoldable pub kept_clause : Form KeptClause
kept_clause = seen as_kept_clause (word is_plain ⨟ rest)
