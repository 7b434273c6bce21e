use Rattle.std.proofs.Common.{◌≤◌, ◌+◌, ◌-◌, arith, refl, sym}
use Rattle.place_parts.specs.ClauseViews.{clause_view}
use Rattle.place_parts.specs.ComponentViews.{component_view}
use Rattle.place_parts.proofs.PlacingTokens.{some_tokens, first_fits, front_fits, is_placing_run}
use Rattle.place_parts.proofs.component_parts.ComponentParts.placing_tokens.Goals as goal

pub overflow_add-first : goal.overflow_add-first
overflow_add-first c =
    let found = c.in_ok-found.found in
    let e = c.in_ok-found.ensures in
    let fits : ((3 + c.len.result + found.before) + 1) + (found.count - 1) ≤ c.args.entry.count =
    first_fits (component_view c.args.self) (clause_view found.clause) (sym e.clause) c.args.entry c.requires _ found.count (rw (c.len.ensures, e.before) refl) e.count in
    omega arith

pub overflow_add-first-2 : goal.overflow_add-first-2
overflow_add-first-2 c =
    let found = c.in_ok-found.found in
    let e = c.in_ok-found.ensures in
    let fits : ((3 + c.len.result + found.before) + 1) + (found.count - 1) ≤ c.args.entry.count =
    first_fits (component_view c.args.self) (clause_view found.clause) (sym e.clause) c.args.entry c.requires _ found.count (rw (c.len.ensures, e.before) refl) e.count in
    omega arith

pub overflow_add-first-3 : goal.overflow_add-first-3
overflow_add-first-3 c =
    let found = c.in_ok-found.found in
    let e = c.in_ok-found.ensures in
    let fits : ((3 + c.len.result + found.before) + 1) + (found.count - 1) ≤ c.args.entry.count =
    first_fits (component_view c.args.self) (clause_view found.clause) (sym e.clause) c.args.entry c.requires _ found.count (rw (c.len.ensures, e.before) refl) e.count in
    omega arith

pub overflow_sub-found : goal.overflow_sub-found
overflow_sub-found c = rw c.in_ok-found.ensures.count (some_tokens (component_view c.args.self) (clause_view c.in_ok-found.found.clause) (sym c.in_ok-found.ensures.clause))

pub front-tokens-requires : goal.front-tokens-requires
front-tokens-requires c =
    let found = c.in_ok-found.found in
    let e = c.in_ok-found.ensures in
    front_fits (component_view c.args.self) (clause_view found.clause) (sym e.clause) c.args.entry c.requires ((3 + c.len.result + found.before) + 1) found.count (rw (c.len.ensures, e.before) refl) e.count c.skip.result c.skip.ensures.words

pub returns-clause-gives : goal.returns-clause-gives
returns-clause-gives c =
    let found = c.in_ok-found.found in
    let e = c.in_ok-found.ensures in
    is_placing_run (component_view c.args.self) (clause_view found.clause) (sym e.clause) c.args.entry c.requires ((3 + c.len.result + found.before) + 1) found.count (rw (c.len.ensures, e.before) refl) e.count c.skip.result c.skip.ensures.words c.front-tokens.result c.skip.ensures.gives c.front-tokens.ensures.words c.front-tokens.ensures.gives
