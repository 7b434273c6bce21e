use Rattle.std.proofs.Common.{[], ap, map, refl, sym, ◌∙◌}
use Rattle.staying_laws.specs.Staying.{lines_on_places}
use Rattle.design_text.specs.Exchanges.{exchange_view}
use Rattle.statement_boxes.specs.Boxes.{box_view}
use Rattle.followed_places.specs.Placed.{placed_view}
use Rattle.followed_places.specs.Places.{said}
use Rattle.followed_places.proofs.FollowedLemmas.{as_found, awaits, both_found, few_tests, few_tests_alone, few_units, follows, follows_alone, some_tests, some_tests_alone, some_units, stay, three_found}
use Rattle.followed_places.proofs.followed.FollowedPlaces.follow.Goals as goal

pub loose_places-requires-clause-some : goal.loose_places-requires-clause-some
loose_places-requires-clause-some g c =
    let f = rw (← c.self.view_is) at c.requires.3 in
    some_units c.args.library.now c.args.text.now.pieces.table.slots c.requires.0 c.requires.1 (exchange_view c.args.exchange) c.requires.2 _ _ f

pub loose_places-requires-clause-few : goal.loose_places-requires-clause-few
loose_places-requires-clause-few g c =
    let f = rw (← c.self.view_is) at c.requires.3 in
    few_units c.args.library.now c.args.text.now.pieces.table.slots c.requires.0 c.requires.1 (exchange_view c.args.exchange) c.requires.2 _ _ f

pub loose_places-requires-2-clause-some : goal.loose_places-requires-2-clause-some
loose_places-requires-2-clause-some g c =
    let f = rw (← c.self.view_is) at c.requires.3 in
    some_units c.args.library.now c.args.text.now.pieces.table.slots c.requires.0 c.requires.1 (exchange_view c.args.exchange) c.requires.2 _ _ f

pub loose_places-requires-2-clause-few : goal.loose_places-requires-2-clause-few
loose_places-requires-2-clause-few g c =
    let f = rw (← c.self.view_is) at c.requires.3 in
    few_units c.args.library.now c.args.text.now.pieces.table.slots c.requires.0 c.requires.1 (exchange_view c.args.exchange) c.requires.2 _ _ f

pub exchanged_keep_outs-requires-clause-some : goal.exchanged_keep_outs-requires-clause-some
exchanged_keep_outs-requires-clause-some g c =
    let f = rw (← c.self.view_is) at c.requires.3 in
    some_units c.args.library.now c.args.text.now.pieces.table.slots c.requires.0 c.requires.1 (exchange_view c.args.exchange) c.requires.2 _ _ f

pub exchanged_keep_outs-requires-clause-few : goal.exchanged_keep_outs-requires-clause-few
exchanged_keep_outs-requires-clause-few g c =
    let f = rw (← c.self.view_is) at c.requires.3 in
    few_units c.args.library.now c.args.text.now.pieces.table.slots c.requires.0 c.requires.1 (exchange_view c.args.exchange) c.requires.2 _ _ f

pub exchanged_keep_outs-requires-clause-awaits : goal.exchanged_keep_outs-requires-clause-awaits
exchanged_keep_outs-requires-clause-awaits g c =
    let library = c.args.library.now in
    let slots = c.args.text.now.pieces.table.slots in
    let e = c.requires.2 in
    let f = rw (← c.self.view_is) at c.requires.3 in
    let x = exchange_view c.args.exchange in
    let gone = rw c.in-Some.is at c.in_ok-went.ensures.loose in
    let come = rw c.in-Some-2.is at c.in_ok-came.ensures.loose in
    let went = rw c.in-Some.is at c.in_ok-went.ensures.components in
    let came = rw c.in-Some-2.is at c.in_ok-came.ensures.components in
    let outs = rw c.in-Some.is at c.in_ok-went.ensures.keep_outs in
    let puts = rw c.in-Some-2.is at c.in_ok-came.ensures.keep_outs in
    let none = c.are_none.ensures c.if-are_none.true in
    let no_went = ap (map placed_view) (sym none.0 ∙ c.deref.ensures.value) ∙ went in
    let no_came = ap (map placed_view) (sym none.1 ∙ c.deref-2.ensures.value) ∙ came in
    let out_is = ap (map box_view) c.deref-then-are_none.ensures.value ∙ outs in
    let put_is = ap (map box_view) c.deref-then-are_none-2.ensures.value ∙ puts in
    (stay library slots c.requires.0 c.requires.1 x e, lines_on_places library (said c.requires.1), _, awaits library slots c.requires.0 c.requires.1 x e _ _ f c.components_are_exchanged.ensures gone come [] [] _ _ no_went no_came out_is put_is c.same_lines_follow.ensures c.crosses_are_unordered.ensures)

pub returns-then-are_none : goal.returns-then-are_none
returns-then-are_none g c =
    let library = c.args.library.now in
    let slots = c.args.text.now.pieces.table.slots in
    let x = exchange_view c.args.exchange in
    let law = c.components_are_exchanged.ensures in
    let gone = rw c.in-Some.is at c.in_ok-went.ensures.loose in
    let come = rw c.in-Some-2.is at c.in_ok-came.ensures.loose in
    let went = rw c.in-Some.is at c.in_ok-went.ensures.components in
    let came = rw c.in-Some-2.is at c.in_ok-came.ensures.components in
    let outs = rw c.in-Some.is at c.in_ok-went.ensures.keep_outs in
    let puts = rw c.in-Some-2.is at c.in_ok-came.ensures.keep_outs in
    let none = c.are_none.ensures c.if-are_none.true in
    let no_went = ap (map placed_view) (sym none.0 ∙ c.deref.ensures.value) ∙ went in
    let no_came = ap (map placed_view) (sym none.1 ∙ c.deref-2.ensures.value) ∙ came in
    let out_is = ap (map box_view) c.deref-then-are_none.ensures.value ∙ outs in
    let put_is = ap (map box_view) c.deref-then-are_none-2.ensures.value ∙ puts in
    record {
      followed = λ old new e followed.
          let f = rw (← c.self.view_is) at followed in
          let awaited = awaits library slots old new x e _ _ f law gone come [] [] _ _ no_went no_came out_is put_is c.same_lines_follow.ensures c.crosses_are_unordered.ensures in
          both_found _ _ _ c.exchanged_keep_outs.result (λ k lines same. follows_alone library slots old new x e _ _ f law gone come [] [] _ _ no_went no_came out_is put_is refl refl _ k.lines lines same) (c.exchanged_keep_outs.ensures.lines _ _ _ awaited) c.exchanged_keep_outs.ensures.keep_outs;
      tests = λ old new e followed.
          let f = rw (← c.self.view_is) at followed in
          as_found _ _ c.exchanged_keep_outs.result (λ k few. few_tests_alone library slots old new x e _ _ f law gone come [] [] _ _ no_went no_came out_is put_is refl refl k.tests few) c.exchanged_keep_outs.ensures.tests;
      least = λ old new e followed.
          let f = rw (← c.self.view_is) at followed in
          as_found _ _ c.exchanged_keep_outs.result (λ k some. some_tests_alone library slots old new x e _ _ f law gone come [] [] _ _ no_went no_came out_is put_is refl refl k.tests some) c.exchanged_keep_outs.ensures.least;
    }

pub exchanged-requires-clause-some : goal.exchanged-requires-clause-some
exchanged-requires-clause-some g c =
    let f = rw (← c.self.view_is) at c.requires.3 in
    rw c.in_ok-around.ensures.scale (some_units c.args.library.now c.args.text.now.pieces.table.slots c.requires.0 c.requires.1 (exchange_view c.args.exchange) c.requires.2 _ _ f)

pub exchanged-requires-clause-few : goal.exchanged-requires-clause-few
exchanged-requires-clause-few g c =
    let f = rw (← c.self.view_is) at c.requires.3 in
    rw c.in_ok-around.ensures.scale (few_units c.args.library.now c.args.text.now.pieces.table.slots c.requires.0 c.requires.1 (exchange_view c.args.exchange) c.requires.2 _ _ f)

pub exchanged-requires-clause-awaits : goal.exchanged-requires-clause-awaits
exchanged-requires-clause-awaits g c =
    let library = c.args.library.now in
    let slots = c.args.text.now.pieces.table.slots in
    let e = c.requires.2 in
    let f = rw (← c.self.view_is) at c.requires.3 in
    let x = exchange_view c.args.exchange in
    let gone = rw c.in-Some.is at c.in_ok-went.ensures.loose in
    let come = rw c.in-Some-2.is at c.in_ok-came.ensures.loose in
    let went = rw c.in-Some.is at c.in_ok-went.ensures.components in
    let came = rw c.in-Some-2.is at c.in_ok-came.ensures.components in
    let outs = rw c.in-Some.is at c.in_ok-went.ensures.keep_outs in
    let puts = rw c.in-Some-2.is at c.in_ok-came.ensures.keep_outs in
    let around = c.in_ok-around.ensures in
    let awaited = awaits library slots c.requires.0 c.requires.1 x e _ _ f c.components_are_exchanged.ensures gone come _ _ _ _ went came outs puts c.same_lines_follow.ensures c.crosses_are_unordered.ensures in
    (stay library slots c.requires.0 c.requires.1 x e, lines_on_places library (said c.requires.1), rw (around.scale, around.surroundings) awaited)

pub returns : goal.returns
returns g c =
    let library = c.args.library.now in
    let slots = c.args.text.now.pieces.table.slots in
    let x = exchange_view c.args.exchange in
    let law = c.components_are_exchanged.ensures in
    let gone = rw c.in-Some.is at c.in_ok-went.ensures.loose in
    let come = rw c.in-Some-2.is at c.in_ok-came.ensures.loose in
    let went = rw c.in-Some.is at c.in_ok-went.ensures.components in
    let came = rw c.in-Some-2.is at c.in_ok-came.ensures.components in
    let outs = rw c.in-Some.is at c.in_ok-went.ensures.keep_outs in
    let puts = rw c.in-Some-2.is at c.in_ok-came.ensures.keep_outs in
    let around = c.in_ok-around.ensures in
    record {
      followed = λ old new e followed.
          let f = rw (← c.self.view_is) at followed in
          let awaited = rw (← around.scale, ← around.surroundings) at (awaits library slots old new x e _ _ f law gone come _ _ _ _ went came outs puts c.same_lines_follow.ensures c.crosses_are_unordered.ensures) in
          let boxes = rw around.scale at (c.exchanged.ensures.boxes _ _ awaited) in
          three_found _ _ _ _ c.exchanged.result (λ k lines same same_outs. follows library slots old new x e _ _ f law gone come _ _ _ _ went came outs puts _ _ k.lines lines same same_outs) (c.exchanged.ensures.lines _ _ awaited) boxes c.exchanged.ensures.keep_outs;
      tests = λ old new e followed.
          let f = rw (← c.self.view_is) at followed in
          let awaited = rw (← around.scale, ← around.surroundings) at (awaits library slots old new x e _ _ f law gone come _ _ _ _ went came outs puts c.same_lines_follow.ensures c.crosses_are_unordered.ensures) in
          let tests = rw around.scale at (c.exchanged.ensures.tests _ _ awaited) in
          both_found _ _ _ c.exchanged.result (λ k few same. few_tests library slots old new x e _ _ f law gone come _ _ _ _ went came outs puts _ same k.tests few) tests c.exchanged.ensures.keep_outs;
      least = λ old new e followed.
          let f = rw (← c.self.view_is) at followed in
          let awaited = rw (← around.scale, ← around.surroundings) at (awaits library slots old new x e _ _ f law gone come _ _ _ _ went came outs puts c.same_lines_follow.ensures c.crosses_are_unordered.ensures) in
          let least = rw around.scale at (c.exchanged.ensures.least _ _ awaited) in
          both_found _ _ _ c.exchanged.result (λ k some same. some_tests library slots old new x e _ _ f law gone come _ _ _ _ went came outs puts _ same k.tests some) least c.exchanged.ensures.keep_outs;
    }
