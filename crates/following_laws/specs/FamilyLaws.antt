-- Laws of families of lines that follow an exchange of things.
use Rattle.std.specs.Prelude.{◌≤◌, ℕ, List, [], ◌++◌, flat_map}
use Rattle.design_model.specs.Families.{cross_lines, pair_lines}
use Rattle.line_laws.specs.Lines.{SameLines, times}
use Rattle.line_laws.specs.PairLaws.{IsSymmetric}
use Rattle.following_laws.specs.Following.{Exchange, LinesFollow}

abbrev pub LinesThatStay : Type 0
LinesThatStay = (lines : List (List ℕ)) → LinesFollow lines lines [] []

abbrev pub PartsFollow : Type 0
PartsFollow = (a b out put c d out' put' : List (List ℕ)) → LinesFollow a b out put → LinesFollow c d out' put'
    → LinesFollow (a ++ c) (b ++ d) (out ++ out') (put ++ put')

abbrev pub SameLinesFollow : Type 0
SameLinesFollow = (a b out put c d out' put' : List (List ℕ)) → SameLines a c → SameLines b d → SameLines out out' → SameLines put put'
    → LinesFollow a b out put → LinesFollow c d out' put'

-- lines that are kept have each line that goes, as often; and without these and with those that come they are the new ones
pub record CanFollow (kept new out put : List (List ℕ)) : Type 0 where
  pub stand : (q : List ℕ) → times q out ≤ times q kept
  pub follow : (left : List (List ℕ)) → SameLines kept (out ++ left) → SameLines (put ++ left) new

abbrev pub KeptLinesFollow : Type 0
KeptLinesFollow = (kept old new out put : List (List ℕ)) → SameLines kept old → LinesFollow old new out put → CanFollow kept new out put

-- The lines of each thing: those of the things that go out go, and those of the things that come in come.
abbrev pub EachFollows : Type 0 → Type 0
EachFollows A = (f : A → List (List ℕ)) (old new out put stay : List A) → Exchange old new out put stay
    → LinesFollow (flat_map f old) (flat_map f new) (flat_map f out) (flat_map f put)

-- The lines of all pairs: those of the things that go out, with one another and with the rest, go.
abbrev pub PairsFollow : Type 0 → Type 0
PairsFollow A = (compare : A → A → List (List ℕ)) (old new out put stay : List A) → IsSymmetric compare → Exchange old new out put stay
    → LinesFollow (pair_lines compare old) (pair_lines compare new)
    (pair_lines compare out ++ cross_lines compare out stay)
    (pair_lines compare put ++ cross_lines compare put stay)

-- The lines of each thing with each of another list: those of the things that go out with all of the other list go, and those of the
-- rest with what goes out of the other list.
abbrev pub CrossesFollow : Type 0 → Type 0 → Type 0
CrossesFollow A B = (compare : A → B → List (List ℕ)) (old new out put stay : List A) (old' new' out' put' stay' : List B)
    → Exchange old new out put stay → Exchange old' new' out' put' stay'
    → LinesFollow (cross_lines compare old old') (cross_lines compare new new')
    (cross_lines compare out old' ++ cross_lines compare stay out')
    (cross_lines compare put new' ++ cross_lines compare stay put')
