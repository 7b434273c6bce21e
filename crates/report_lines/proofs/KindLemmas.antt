-- The kinds of lines.
use Rattle.std.proofs.Common.{◌≡◌, List, [], ◌∷◌, ◌++◌, sym, subst}
use Rattle.std.specs.Prelude.{IsPermutation}
use Rattle.std.specs.List.{All}
use Rattle.std.proofs.lemmas.List.Elements.{All-nil, All-push}
use Rattle.std.proofs.lemmas.List.Sorted.{All-permutation}
use Rattle.design_model.specs.declared.diagnostic.DiagLine.{DiagLine}
use Rattle.design_model.specs.Lines.{IsOfItsKind}
use Rattle.report_lines.specs.Kinds.{HaveTheirKinds}

pub kinds_none : {A : Type 0} (lines : List (DiagLine A)) → lines ≡ [] → HaveTheirKinds lines
kinds_none lines none = record { each = subst (λ l. All IsOfItsKind l) (sym none) (All-nil IsOfItsKind) }

pub kinds_more : {A : Type 0} (lines new : List (DiagLine A)) (line : DiagLine A) → HaveTheirKinds lines → IsOfItsKind line → new ≡ lines ++ line ∷ [] → HaveTheirKinds new
kinds_more lines new line k is more = record { each = subst (λ l. All IsOfItsKind l) (sym more) (All-push IsOfItsKind lines line k.each is) }

pub kinds_moved : {A : Type 0} (old new : List (DiagLine A)) → IsPermutation old new → HaveTheirKinds old → HaveTheirKinds new
kinds_moved old new moved k = record { each = All-permutation IsOfItsKind old new moved k.each }
