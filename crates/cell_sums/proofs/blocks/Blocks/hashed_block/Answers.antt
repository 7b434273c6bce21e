use Rattle.std.proofs.Common.{◌≡◌, ◌+◌, ◌*◌, List, Some, [], ◌∷◌, ◌++◌, sym, ap, rules, ◌∙◌, length, length-append, take, replicate, arith}
use Rattle.cell_sums.specs.Blocks.{BlockSums, Key, block_at, sum_at}
use Rattle.cell_sums.proofs.BlockLemmas.{block_made, new_place, none_changed}
use Rattle.cell_sums.proofs.blocks.Blocks.hashed_block.Goals as goal

pub invariant_of-self-in_err-push : goal.invariant_of-self-in_err-push
invariant_of-self-in_err-push g c =
    let old = c.self.inside.places in
    let keys : c.push.new.self ≡ old = search rules in
    let items : c.extend_from_slice.new.self.items ≡ take (length old * 64) c.self.inside.sums.items ++ replicate 64 0 = search rules in
    let spilled : c.truncate-2.new.self.items ≡ take (length old * 64) c.self.inside.spilled.items = search rules in
    let count = ap (λ (ks : List Key). length ks) keys in
    block_made old c.self.inside.sums.items c.self.inside.spilled.items _ _ c.self.inside.most c.self.invariant items spilled c.push.new.self (omega (arith, count))

pub invariant_of-self-2 : goal.invariant_of-self-2
invariant_of-self-2 g c =
    let old = c.self.inside.places in
    let keys : c.push.new.self ≡ old ++ c.args.key ∷ [] = search rules in
    let items : c.extend_from_slice.new.self.items ≡ take (length old * 64) c.self.inside.sums.items ++ replicate 64 0 = search rules in
    let spilled : c.truncate-2.new.self.items ≡ take (length old * 64) c.self.inside.spilled.items = search rules in
    let count : length c.push.new.self ≡ length old + 1 = ap (λ (ks : List Key). length ks) keys ∙ length-append old (c.args.key ∷ []) in
    block_made old c.self.inside.sums.items c.self.inside.spilled.items _ _ c.self.inside.most c.self.invariant items spilled c.push.new.self (omega (arith, count))

pub returns-clause-place : goal.returns-clause-place
returns-clause-place g c =
    let old = c.self.inside.places in
    let keys : c.push.new.self ≡ old ++ c.args.key ∷ [] = search rules in
    ap (λ (ks : List Key). block_at ks c.args.key) keys ∙ new_place old c.args.key (sym c.in_default.ensures.place) ∙ ap (λ n. Some n) (sym c.len-block.ensures)

pub returns-clause-same : goal.returns-clause-same
returns-clause-same g c l i j =
    let old = c.self.inside.places in
    let keys : c.push.new.self ≡ old ++ c.args.key ∷ [] = search rules in
    let items : c.extend_from_slice.new.self.items ≡ take (length old * 64) c.self.inside.sums.items ++ replicate 64 0 = search rules in
    let spilled : c.truncate-2.new.self.items ≡ take (length old * 64) c.self.inside.spilled.items = search rules in
    none_changed old c.self.inside.sums.items c.self.inside.spilled.items _ _ c.self.inside.most c.self.invariant items spilled c.args.key c.self.inside.most c.push.new.self keys l i j
    ∙ ap (λ (b : BlockSums). sum_at b l i j) c.self.view_is
