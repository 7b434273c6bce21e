-- Names that may be put into a text (own).
use Rattle.std.specs.Prelude.{ℕ, Bool, false, not, ◌&&◌, ◌||◌, ◌==◌, nat_lt, List, [], ◌∷◌, codes}
use Rattle.std.specs.List.{list_all}
use Rattle.form_meanings.specs.Words.{is_name, is_word}

-- a byte that a word may have: no white space, and none that is refused
abbrev pub is_visible : ℕ → Bool
is_visible b = nat_lt 32 b && not (b == 127)

-- bytes that begin neither a comment nor a string
abbrev pub begins_word : List ℕ → Bool
begins_word [] = false
begins_word (b ∷ bs) = not (b == 35 || b == 34)

-- bytes that are a name by themselves, wherever they are put
abbrev pub is_name_text : List ℕ → Bool
is_name_text name = begins_word name && list_all is_visible name && is_name name

-- a component may have this name: it stands for no pin of the design
abbrev pub is_component_name : List ℕ → Bool
is_component_name name = is_name_text name && not (is_word (codes "PIN") name || is_word (codes "VPIN") name)
