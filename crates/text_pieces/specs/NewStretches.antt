-- Which statements of a text are new where a cut is made, by where they end.
use Rattle.std.specs.Prelude.{◌+◌, ◌-◌, ℕ, Bool, true, false, ◌&&◌, ◌==◌, nat_le, nat_lt, List, [], ◌∷◌, filter, length, if◌then◌else◌}
use Rattle.std.specs.List.{list_any}
use Rattle.std.specs.Str.{bytes_eq}
use Rattle.design_model.specs.EnumWords.{section_word}
use Rattle.design_model.specs.declared.mode.Mode.{Mode}
use Rattle.design_model.specs.declared.mode.Mode.TheVariants.{Top, In, Props, After}
use Rattle.statement_model.specs.Cuts.{Cut, with_cuts}
use Rattle.statement_model.specs.Tokens.{Token}
use Rattle.lefdef_tokens.specs.TokenViews.{span_of}
use Rattle.def_grammar.specs.Records.{Record, def}
use Rattle.text_pieces.specs.Statements.{statements_of}

-- where a statement ends, and the mode in which the next one stands
abbrev pub End : Type 0
End = ℕ × Mode

-- the ends of a text's statements
abbrev pub ends_from : Mode → List (List Token × Record) → List End
ends_from m [] = []
ends_from m (x ∷ xs) = ((span_of x.0).hi, def.after m x.1) ∷ ends_from (def.after m x.1) xs

abbrev pub ends_of : List ℕ → List End
ends_of text = ends_from Top (statements_of text)

abbrev pub same_mode : Mode → Mode → Bool
same_mode Top Top = true
same_mode (In s) (In t) = bytes_eq (section_word s) (section_word t)
same_mode Props Props = true
same_mode After After = true
same_mode _ _ = false

-- an end of the old text behind a cut, and one of the new text that stands there, in the same mode
abbrev pub is_moved : Cut → End → End → Bool
is_moved cut old new = nat_le cut.hi old.0 && (new.0 == (old.0 - cut.hi) + (cut.lo + length cut.put)) && same_mode old.1 new.1

-- an end of the new text is kept where an old one stands there
abbrev pub is_kept : Cut → List End → End → Bool
is_kept cut olds new = list_any (λ old. is_moved cut old new) olds

-- the place of the last end, or another where there is none
abbrev pub last_end : ℕ → List End → ℕ
last_end at [] = at
last_end at (e ∷ es) = last_end e.0 es

-- where the statements in front of a cut end
abbrev pub end_before : Cut → List End → ℕ
end_before cut olds = last_end 0 (filter (λ e. nat_lt e.0 cut.lo) olds)

-- up to the first that passes a test, or all
abbrev pub up_to : (End → Bool) → List End → List End
up_to test [] = []
up_to test (e ∷ es) = if test e then e ∷ [] else e ∷ up_to test es

-- The statements of the new text that are new, by their ends: those behind the statements in front of the cut, up to the first
-- whose end is kept.
abbrev pub new_stretch : List ℕ → Cut → List End
new_stretch text cut =
    let olds = ends_of text in
    up_to (is_kept cut olds) (filter (λ e. nat_lt (end_before cut olds) e.0) (ends_of (with_cuts (cut ∷ []) text)))
