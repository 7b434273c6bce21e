-- A statement that is read from its piece alone.
use Rattle.std.proofs.Common.{◌≡◌, ◌+◌, ℕ, List, [], length, Option, Some, None, Result, Ok, Err, refl, sym, ap, ◌∙◌, append-nil}
use Rattle.design_model.specs.declared.fault.Fault.{Fault}
use Rattle.design_model.specs.declared.mode.Mode.{Mode}
use Rattle.design_model.specs.declared.mode.Mode.TheVariants.{Top, In, Props, After}
use Rattle.design_model.specs.declared.mode.Section.TheVariants.{Components}
use Rattle.statement_model.specs.Tokens.{Token, left_from, lex, tokens}
use Rattle.statement_model.specs.Tokens.Open.{between}
use Rattle.statement_model.specs.Boundaries.{cut, statement_at, words}
use Rattle.statement_model.specs.Form.{spell}
use Rattle.statement_model.specs.Reading.{read_at}
use Rattle.statement_reader.specs.declared.grammar.Read.{Read}
use Rattle.statement_reader.proofs.Steps.{is_cut}
use Rattle.lefdef_tokens.specs.Views.{pieces_of}
use Rattle.def_grammar.specs.Components.{Component, component_form}
use Rattle.def_grammar.specs.Records.{Record, component, def, entries_form, entry, statement}
use Rattle.piece_laws.specs.PieceLaws.{PiecesAreFound}
use Rattle.piece_laws.specs.Pieces.{IsPiece}
use Rattle.def_reader.specs.StatementViews.{record_view}
use Rattle.def_reader.specs.declared.statement.Statement.{Statement}
use Rattle.edit_laws.proofs.SectionModes.{MayStand, statement_is}

-- the entry of a component has its words
in_components : (m : Mode) (c : Component) → m ≡ In Components → spell (statement m) (entry (component c)) ≡ spell component_form c
unfolding statement entries_form
in_components m c is = rw is refl

entry_spelled : (m : Mode) (c : Component) → MayStand m (entry (component c)) → spell (statement m) (entry (component c)) ≡ spell component_form c
entry_spelled Top c may = absurd may
entry_spelled (In s) c may = in_components (In s) c (ap In (sym may))
entry_spelled Props c may = absurd may
entry_spelled After c may = absurd may

abbrev Found : Type 0 → Type 0 → Type 0 → Type 0
Found X Y Z = Result (Option (X × Y × Z)) Fault

first_same : {X Y Z : Type 0} (a b : X × Y × Z) (r : Found X Y Z) → r ≡ Ok (Some a) → r ≡ Ok (Some b) → a.0 ≡ b.0
first_same a b r one other = let t = sym one ∙ other in let e : a ≡ b = cc in ap (λ x. x.0) e

cut_same : (a b : List Token × List Token) (r : Option (List Token × List Token)) → r ≡ Some a → r ≡ Some b → a.0 ≡ b.0
cut_same a b r one other = let t = sym one ∙ other in let e : a ≡ b = cc in ap (λ x. x.0) e

module _ (law : PiecesAreFound def) (m after : Mode) (bytes : List ℕ) (rec : Record) (p : IsPiece def m bytes rec after) where
  alone : read_at def m (left_from bytes 0) ≡ Ok (Some (rec, after, lex (0 + length bytes) between []))
  alone = ap (λ (t : List ℕ). read_at def m (lex 0 between t)) (sym (append-nil bytes)) ∙ law 0 m after bytes [] rec p tt

  pub has_no_fault : (f : Fault) → read_at def m (left_from bytes 0) ≡ Err f → ⊥
  has_no_fault f fault = let e = sym alone ∙ fault in absurd (cc)

  pub is_some : read_at def m (left_from bytes 0) ≡ Ok None → ⊥
  is_some none = let e = sym alone ∙ none in absurd (cc)

  module _ (x : Read Statement Mode) where
    pub says_it : read_at def m (left_from bytes 0) ≡ Ok (Some (record_view x.statement, x.place, left_from bytes x.end)) → record_view x.statement ≡ rec
    says_it reads = first_same _ _ (read_at def m (left_from bytes 0)) reads alone

    module _ (cuts : statement_at (def.ending m) (left_from bytes 0) ≡ Ok (Some (pieces_of x.tokens, left_from bytes x.end))) where
      is_statement : pieces_of x.tokens ≡ p.statement
      is_statement =
          let c = is_cut (def.ending m) (left_from bytes 0) (left_from bytes x.end) (pieces_of x.tokens) cuts in
          let own : cut (def.ending m) [] (tokens bytes).pieces ≡ Some (p.statement, []) = rw p.tokens.pieces p.one in
          cut_same _ _ (cut (def.ending m) [] (tokens bytes).pieces) c.0 own

      pub pieces_are : pieces_of x.tokens ≡ (tokens bytes).pieces
      pieces_are = is_statement ∙ sym p.tokens.pieces

      pub spelled : (c : Component) → rec ≡ entry (component c) → words (pieces_of x.tokens) ≡ spell component_form c
      spelled c is =
          let s = statement_is m p.statement rec after p.says in
          ap words is_statement ∙ s.spelled ∙ ap (spell (statement m)) is ∙ entry_spelled m c (rw is at s.may)
