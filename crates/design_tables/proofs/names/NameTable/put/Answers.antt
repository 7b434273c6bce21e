use Rattle.std.proofs.Common.{◌≡◌, ◌++◌, ◌∷◌, [], Some, false, map, is_some, sym, ap, ◌∙◌}
use Rattle.std.specs.Option.{option_map}
use Rattle.design_tables.specs.Changes.{or_else_listed}
use Rattle.design_tables.specs.Listings.{found, has_name, listed, unlisted, with_marks}
use Rattle.design_tables.specs.Prepared.{set_named}
use Rattle.design_tables.specs.ListingViews.{listing_view, named_view}
use Rattle.design_tables.proofs.ListingLemmas.{found_has, found_is, has_is, has_last, has_set, known_name, listed_both, listed_new, listed_one, listed_put, looked_none, looked_up, placed, set_is}
use Rattle.design_tables.proofs.names.NameTable.put.Goals as goal

pub returns-in-Some-clause-there : goal.returns-in-Some-clause-there
returns-in-Some-clause-there g c =
    let es = c.self.inside.names.entries in
    let old = map named_view es in
    let name = c.args.name.now in
    let l = c.push.new.self in
    let at : found name old ≡ Some (listing_view c.in-Some.listing.now) =
    found_is name es ∙ ap (option_map listing_view) (looked_up _ _ c.in-Some.listing c.in-Some.is c.get_mut.ensures.value) in
    let set : map named_view (c.get_mut.follows.lender l).entries ≡ set_named name (listing_view l) old = ap (map named_view) (c.get_mut.follows.holds l).0 ∙ set_is name l es in
    rw (← c.self.view_is) (λ n. ap (has_name n) set ∙ has_set old n name (listing_view l) ∙ known_name old n name (found_has old name (listing_view c.in-Some.listing.now) at))

pub returns-in-Some-clause-put : goal.returns-in-Some-clause-put
returns-in-Some-clause-put g c =
    let es = c.self.inside.names.entries in
    let old = map named_view es in
    let name = c.args.name.now in
    let l = c.push.new.self in
    let had = c.in-Some.listing.now in
    let at : found name old ≡ Some (listing_view had) = found_is name es ∙ ap (option_map listing_view) (looked_up _ _ c.in-Some.listing c.in-Some.is c.get_mut.ensures.value) in
    let set : map named_view (c.get_mut.follows.lender l).entries ≡ set_named name (listing_view l) old = ap (map named_view) (c.get_mut.follows.holds l).0 ∙ set_is name l es in
    listed_put c.args.self.now old (map named_view (c.get_mut.follows.lender l).entries) name c.args.mark (listing_view had) (listing_view l) (λ n. ap (listed n) c.self.view_is) at c.in_ok-push-in-Some.ensures set

pub returns-clause-there : goal.returns-clause-there
returns-clause-there g c = λ n.
    let name = c.args.name.now in
    let left = with_marks (c.args.mark ∷ []) unlisted in
    let none = looked_none _ _ c.in-None.is c.get_mut.ensures.value in
    ap (has_name n) (placed name left c.self.inside.names c.in_ok-name.name c.one.result c.insert.new.self.entries c.in_ok-name.ensures c.one.ensures none (rw c.get_mut.follows.holds-at-none at c.in_ok-insert.ensures.entries))
    ∙ ap (λ es. has_name n (es ++ (name, left) ∷ [])) c.self.view_is
    ∙ has_last c.args.self.now n name left

pub returns-clause-put : goal.returns-clause-put
returns-clause-put g c = λ n.
    let name = c.args.name.now in
    let left = with_marks (c.args.mark ∷ []) unlisted in
    let none = looked_none _ _ c.in-None.is c.get_mut.ensures.value in
    let absent : has_name name c.args.self.now ≡ false = ap (has_name name) (sym c.self.view_is) ∙ has_is name c.self.inside.names.entries ∙ ap is_some none in
    ap (listed n) (placed name left c.self.inside.names c.in_ok-name.name c.one.result c.insert.new.self.entries c.in_ok-name.ensures c.one.ensures none (rw c.get_mut.follows.holds-at-none at c.in_ok-insert.ensures.entries))
    ∙ ap (λ es. listed n (es ++ (name, left) ∷ [])) c.self.view_is
    ∙ listed_both n c.args.self.now ((name, left) ∷ [])
    ∙ ap (or_else_listed (found n c.args.self.now)) (listed_one n name left)
    ∙ listed_new c.args.self.now n name c.args.mark absent
