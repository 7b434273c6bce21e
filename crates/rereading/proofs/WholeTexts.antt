-- A whole text that was read.
use Rattle.std.proofs.Common.{◌≡◌, ℕ, true, List, [], ◌∷◌, ◌++◌, length, drop, take, None, Ok, refl, sym, ap, ◌∙◌, subst, append-nil, slice_range}
use Rattle.std.specs.List.{concat}
use Rattle.std.proofs.lemmas.List.{length-drop}
use Rattle.std.proofs.Math.Seq.{take-length}
use Rattle.design_model.specs.declared.mode.Mode.{Mode}
use Rattle.design_model.specs.declared.mode.Mode.TheVariants.{Top, In, Props, After}
use Rattle.statement_model.specs.Tokens.{left_from}
use Rattle.statement_model.specs.Reading.{read_at}
use Rattle.def_grammar.specs.Records.{def, is_after}
use Rattle.piece_laws.specs.ChainLaws.{ApartJoins, ChainsJoin, ChainsLead, ModesJoin}
use Rattle.piece_laws.specs.PieceLaws.{TailsAreFound, TailsMayEnd}
use Rattle.piece_laws.specs.Pieces.{AreApart, AreChained, IsTail}
use Rattle.rereading.specs.Rereading.{new_bytes}
use Rattle.rereading.specs.Steps.{PieceAt}
use Rattle.rereading.specs.Texts.{IsInPieces}
use Rattle.rereading.specs.declared.pieces.NewPiece.{NewPiece}
use Rattle.rereading.specs.declared.pieces.WholeText.{WholeText}
use Rattle.rereading.proofs.Going.{Going, going_on, left_at}

after_is : (m : Mode) → is_after m ≡ true → m ≡ After
after_is Top after = absurd (cc)
after_is (In s) after = absurd (cc)
after_is Props after = absurd (cc)
after_is After after = refl

module _ {A : Type 0} (text : List ℕ) where
  -- one piece more
  pub pushed : ChainsJoin def → ChainsLead def → ModesJoin def → ApartJoins → (pos end : ℕ) (mode next : Mode) (ps : List (NewPiece A)) (p : NewPiece A) → PieceAt mode text pos (end, next)
      → p.bytes.items ≡ slice_range text pos end → p.mode ≡ mode → Going Top text ps mode pos → Going Top text (ps ++ p ∷ []) next end
  pushed joins leads modes_join apart_joins pos end mode next ps p piece bytes same g =
      going_on Top mode text ps pos g joins leads modes_join apart_joins next text [] end p (sym (append-nil text)) tt piece bytes same

  -- all is read
  pub whole_text : TailsAreFound def → TailsMayEnd def → (pos : ℕ) (mode : Mode) (x : WholeText A) → Going Top text x.pieces.items mode pos → read_at def mode (left_from text pos) ≡ Ok None
      → x.reads ≡ length x.pieces.items → x.tail.items ≡ slice_range text pos (length text) → IsInPieces text x
  whole_text found ends pos mode x g none counted range =
      let ps = new_bytes x.pieces.items in
      let left = drop pos text in
      let tail : x.tail.items ≡ left = range ∙ ap (λ (k : ℕ). take k left) (sym (length-drop pos text)) ∙ take-length left in
      let over : g.left ≡ x.tail.items = sym (left_at Top mode text x.pieces.items pos g) ∙ sym tail in
      let is : IsTail def mode x.tail.items = rw tail (found pos mode left none) in
      let last = after_is mode (ends mode x.tail.items is) in
      record {
        recs = g.recs;
        chained = subst (AreChained def Top ps g.recs) last g.chained;
        modes = g.modes;
        reads = counted;
        whole = ap (λ (t : List ℕ). concat ps ++ t) (sym over) ∙ sym g.whole;
        apart = subst (AreApart ps) over g.apart;
        ends = subst (λ (m : Mode). IsTail def m x.tail.items) last is;
      }
