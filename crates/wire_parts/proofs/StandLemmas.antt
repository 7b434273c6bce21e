-- Wires that are left, and which tokens of a text they are.
use Rattle.std.proofs.Common.{◌≡◌, List, ℕ, Option, Some, None, [], ◌∷◌, ◌++◌, sym, ap, ◌∙◌, subst}
use Rattle.std.specs.Prelude.{codes, IfSome, MatchOption}
use Rattle.statement_model.specs.Form.{empty, on, spell}
use Rattle.statement_model.specs.Tokens.{Token}
use Rattle.def_grammar.specs.Wiring.{special_wire, wire, wiring_status}
use Rattle.lefdef_tokens.specs.Places.{behind, past}
use Rattle.lefdef_tokens.specs.Views.{pieces_of}
use Rattle.lefdef_tokens.proofs.PlaceLemmas.{behind_append}
use Rattle.statement_reader.specs.PartViews.{PartsAt}
use Rattle.statement_reader.specs.declared.parts.Parts.{Parts}
use Rattle.wire_parts.specs.WiresLeft.{StandsIn}
use Rattle.wire_parts.specs.WiringViews.{SpecialWireAt, SpecialWiresAt, WireAt, WiringAt, kind_view, special_wire_view, wire_view}
use Rattle.wire_parts.specs.declared.wiring.SpecialWires.{SpecialWires}
use Rattle.wire_parts.specs.declared.wiring.Wiring.{Wiring}

-- after a call that gave one of some parts, or none, those that are left
pub left_in : {W : Type 0} (A : Type 0) (B : W → Type 0) (old new : Parts W) (text : List ℕ) (spells : W → List (List ℕ)) (found : Option W)
    → IfSome found (λ x. pieces_of new.cursor.tokens ≡ behind (spells x) (pieces_of old.cursor.tokens)) → MatchOption found (A × (new.cursor ≡ old.cursor)) B
    → StandsIn PartsAt text old → StandsIn PartsAt text new
left_in A B old new text spells (Some x) left fewer s = (s.0, s.1 ++ spells x, s.2, left ∙ ap (behind (spells x)) s.3 ∙ sym (behind_append s.1 (spells x) (pieces_of s.0)))
left_in A B old new text spells None left fewer s = (s.0, s.1, s.2, ap (λ c. pieces_of c.tokens) fewer.1 ∙ s.3)

-- one that was given behind its first word
pub given_in : {W : Type 0} (at : List Token → W → Type 0) (old : Parts W) (text : List ℕ) (found : Option W)
    → IfSome found (λ x. at (past 1 (pieces_of old.cursor.tokens)) x) → StandsIn PartsAt text old → IfSome found (λ x. StandsIn at text x)
given_in at old text (Some x) given s =
    (s.0, s.1 ++ [] ∷ [], s.2, subst (λ (ps : List Token). at ps x) (ap (past 1) s.3 ∙ sym (behind_append s.1 ([] ∷ []) (pieces_of s.0))) given)
given_in at old text None given s = tt

abbrev kind_words : Wiring → List (List ℕ)
kind_words w = spell (on (codes "NOSHIELD") empty wiring_status) (kind_view w.kind)

-- the first wire of a clause, and the others
pub first_in : (text : List ℕ) (w : Wiring) → StandsIn WiringAt text w → StandsIn WireAt text w.first
first_in text w s = (s.0, s.1 ++ kind_words w, s.2, subst (λ (ps : List Token). WireAt ps w.first) (sym (behind_append s.1 (kind_words w) (pieces_of s.0))) s.3.0)

pub others_in : (text : List ℕ) (w : Wiring) → StandsIn WiringAt text w → StandsIn PartsAt text w.others
others_in text w s =
    let words = spell wire (wire_view w.first) in (
      s.0,
      (s.1 ++ kind_words w) ++ words,
      s.2,
      s.3.1 ∙ sym (behind_append (s.1 ++ kind_words w) words (pieces_of s.0) ∙ ap (behind words) (behind_append s.1 (kind_words w) (pieces_of s.0))),
    )

pub special_first_in : (text : List ℕ) (w : SpecialWires) → StandsIn SpecialWiresAt text w → StandsIn SpecialWireAt text w.first
special_first_in text w s = (s.0, s.1, s.2, s.3.0)

pub special_others_in : (text : List ℕ) (w : SpecialWires) → StandsIn SpecialWiresAt text w → StandsIn PartsAt text w.others
special_others_in text w s =
    let words = spell special_wire (special_wire_view w.first) in
    (s.0, s.1 ++ words, s.2, s.3.1 ∙ sym (behind_append s.1 words (pieces_of s.0)))
