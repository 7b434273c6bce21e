use Rattle.std.proofs.Common.{◌≡◌, ℕ, ◌+◌, ◌-◌, ◌<◌, List, ◌∷◌, length, get_or, drop, sym, ap, ◌∙◌, arith}
use Rattle.std.specs.List.{filter_map}
use Rattle.cell_library.specs.Records.{records_view}
use Rattle.cell_library.proofs.AddingLemmas.{split_at}
use Rattle.cell_library.proofs.noted.note_all.Goals as goal

split_before : {S : Type 0} (ss : List S) (i : ℕ) (s : S) → 0 < i → i - 1 < length ss → s ≡ get_or ss (i - 1) s → drop (i - 1) ss ≡ s ∷ drop i ss
split_before ss i s some below here =
    let same : (i - 1) + 1 ≡ i = omega arith in
    split_at ss (i - 1) s below here ∙ ap (λ n. s ∷ drop n ss) same

pub loop-place-preserved : goal.loop-place-preserved
loop-place-preserved g c = λ name.
    let n = g.N.Noted in
    let l = c.loop-place in
    let inner = c.args.inner.now in
    c.note.ensures name (filter_map n.part (records_view (drop l.place inner))) (l.invariant name)
    ∙ ap (λ ss. n.says (name, filter_map n.part (records_view ss))) (sym (split_before inner l.place c.index-inner-place.result c.loop-place-test.true (omega arith) c.index-inner-place.is))
