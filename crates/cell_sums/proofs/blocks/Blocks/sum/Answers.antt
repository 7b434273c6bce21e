use Rattle.std.proofs.Common.{◌≡◌, ◌+◌, ◌*◌, ◌%◌, ℕ, Bor, Option, Some, None, option_map, option_copied, refl, ap, ap₂, ◌∙◌, arith, get_or}
use Rattle.std.proofs.lemmas.Grind.{get_or_default_zero}
use Rattle.std.specs.Option.{unwrap_or}
use Rattle.cell_sums.specs.Blocks.{BlockSums, sum_at, sum_in}
use Rattle.cell_sums.proofs.blocks.Blocks.sum.Goals as goal

seen : (o : Option (Bor ℕ)) → option_copied o ≡ option_map (λ (x : Bor ℕ). x.now) o
seen (Some x) = refl
seen None = refl

pub overflow_add-result : goal.overflow_add-result
overflow_add-result g c =
    let place : ℕ = c.in-Some.block * 64 + c.args.minor % 64 in
    let read = get_or_default_zero c.self.inside.sums.items place c.index.result.now (omega (arith, c.in-Some.ensures.within, c.self.invariant)) in
    let spilled = c.unwrap_or-spilled.ensures ∙ ap (λ (o : Option ℕ). unwrap_or o 0) (c.copied.ensures ∙ seen c.get-2.result) ∙ c.get-2.ensures.lookup.4 (omega arith) 0 ∙ ap (λ xs. get_or xs place 0) c.deref.ensures.value in
    let fit = c.self.invariant.fit place in
    omega (arith, c.index.ensures, read, spilled, fit)

pub returns : goal.returns
returns g c =
    let place : ℕ = c.in-Some.block * 64 + c.args.minor % 64 in
    let read = get_or_default_zero c.self.inside.sums.items place c.index.result.now (omega (arith, c.in-Some.ensures.within, c.self.invariant)) in
    let spilled = c.unwrap_or-spilled.ensures ∙ ap (λ (o : Option ℕ). unwrap_or o 0) (c.copied.ensures ∙ seen c.get-2.result) ∙ c.get-2.ensures.lookup.4 (omega arith) 0 ∙ ap (λ xs. get_or xs place 0) c.deref.ensures.value in
    ap₂ (λ a b. a + b) (c.index.ensures ∙ read) spilled
    ∙ ap (λ (o : Option ℕ). sum_in c.self.inside.sums.items c.self.inside.spilled.items (c.args.minor % 64) o) c.in-Some.ensures.place
    ∙ ap (λ (b : BlockSums). sum_at b c.args.layer c.args.minor c.args.major) c.self.view_is
