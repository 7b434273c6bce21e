-- The words that stand after END in DEF statements.
use Rattle.std.proofs.Common.{◌≡◌, ℕ, true, false, List, [], ◌∷◌, Option, Some, refl, sym, ap, ◌∙◌, ⊎_elim, codes}
use Rattle.std.proofs.lemmas.Bool.{cases_Bool as cases}
use Rattle.std.proofs.lemmas.Slice.Eq.{bytes_eq-Decides}
use Rattle.design_model.specs.declared.mode.Mode.{Mode}
use Rattle.design_model.specs.declared.mode.Mode.TheVariants.{Top, In, Props, After}
use Rattle.design_model.specs.declared.mode.Section.{Section}
use Rattle.design_model.specs.declared.mode.Section.TheVariants.{Components}
use Rattle.design_model.specs.EnumWords.{section_word}
use Rattle.form_meanings.specs.Words.{is_word, is_quoted, is_semicolon, split_at}
use Rattle.statement_model.specs.Form.{whole}
use Rattle.def_grammar.specs.Properties.{property_statement}
use Rattle.def_grammar.specs.Top.{plain_statement, top_statement}
use Rattle.def_grammar.specs.Records.{Record, statement}

pub same_word : (word w : List ℕ) → is_word word w ≡ true → word ≡ w
same_word word w e = sym ((bytes_eq-Decides w word).0 e)

-- a token that is a word, and no string
pub not_quoted : (word w : List ℕ) → is_word word w ≡ true → is_quoted word ≡ false → is_quoted w ≡ false
not_quoted word w is plain = ap is_quoted (sym (same_word word w is)) ∙ plain

section_is_plain : (s : Section) → is_quoted (section_word s) ≡ false
unfolding section_word
section_is_plain Components = refl
section_is_plain _ = refl

-- no string stands after END in a statement of this place
abbrev NoStringEnds : Mode → Type 0
NoStringEnds m = (v : List ℕ) (x : Record × Option ℕ) → whole (statement m) (codes "END" ∷ v ∷ []) ≡ Some x → is_quoted v ≡ false

end_of_design : NoStringEnds Top
unfolding statement top_statement plain_statement section_word
end_of_design v x e = ⊎_elim
    (λ is. not_quoted (codes "DESIGN") v is refl)
    (λ other. let h = rw other at e in absurd (cc))
    (cases (is_word (codes "DESIGN") v))

end_of_section : (s : Section) → NoStringEnds (In s)
unfolding statement
end_of_section s v x e = ⊎_elim
    (λ is. not_quoted (section_word s) v is (section_is_plain s))
    (λ other. let h = rw other at e in absurd (cc))
    (cases (is_word (section_word s) v))

-- the words END PROPERTYDEFINITIONS, or a property END before a ;
end_of_properties : NoStringEnds Props
unfolding statement property_statement split_at
end_of_properties v x e = ⊎_elim
    (λ (is : is_word (codes "PROPERTYDEFINITIONS") v ≡ true). not_quoted (codes "PROPERTYDEFINITIONS") v is refl)
    (λ (other : is_word (codes "PROPERTYDEFINITIONS") v ≡ false). ⊎_elim
    (λ (semicolon : is_semicolon v ≡ true). not_quoted (codes ";") v semicolon refl)
    (λ (none : is_semicolon v ≡ false). let h = rw (other, none) at e in absurd (cc))
    (cases (is_semicolon v)))
    (cases (is_word (codes "PROPERTYDEFINITIONS") v))

-- what stands after END in a statement of two tokens that reads is no string
pub end_form : (m : Mode) → NoStringEnds m
unfolding statement
end_form Top v x e = end_of_design v x e
end_form (In s) v x e = end_of_section s v x e
end_form Props v x e = end_of_properties v x e
end_form After v x e = absurd (cc)
