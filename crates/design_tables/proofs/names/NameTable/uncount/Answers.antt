use Rattle.std.proofs.Common.{◌≡◌, Some, map, ap, ◌∙◌}
use Rattle.std.specs.Option.{option_map}
use Rattle.design_tables.specs.Listings.{found, has_name, listed}
use Rattle.design_tables.specs.Prepared.{set_named}
use Rattle.design_tables.specs.ListingViews.{listing_view, named_view}
use Rattle.design_tables.proofs.ListingLemmas.{counted_none, counted_set, found_is, has_set, looked_none, looked_up, set_is}
use Rattle.design_tables.proofs.names.NameTable.uncount.Goals.{in-Some, in-None}
use Rattle.design_tables.proofs.names.NameTable.uncount.Goals as goal

pub returns-clause-names : goal.returns-clause-names
returns-clause-names g c = λ n.
    let es = c.self.inside.names.entries in
    let name = c.args.word.now in
    elim c.match-get_mut.branch [
      | in-Some w ↦
          let l = w.uncount.new.self in
          let set : map named_view (c.get_mut.follows.lender l).entries ≡ set_named name (listing_view l) (map named_view es) = ap (map named_view) (c.get_mut.follows.holds l).0 ∙ set_is name l es in
          rw w.self-inside-is (ap (has_name n) set ∙ has_set (map named_view es) n name (listing_view l) ∙ ap (λ t. has_name n t) c.self.view_is)
      | in-None w ↦ rw w.self-inside-is (ap (λ m. has_name n (map named_view m.entries)) c.get_mut.follows.holds-at-none ∙ ap (λ t. has_name n t) c.self.view_is)
    ]

pub returns-clause-counted : goal.returns-clause-counted
returns-clause-counted g c = λ n.
    let es = c.self.inside.names.entries in
    let name = c.args.word.now in
    elim c.match-get_mut.branch [
      | in-Some w ↦
          let l = w.uncount.new.self in
          let had = w.in-Some.listing.now in
          let found_at : found name (map named_view es) ≡ Some (listing_view had) =
          found_is name es ∙ ap (option_map listing_view) (looked_up _ _ w.in-Some.listing w.in-Some.is c.get_mut.ensures.value) in
          let set : map named_view (c.get_mut.follows.lender l).entries ≡ set_named name (listing_view l) (map named_view es) = ap (map named_view) (c.get_mut.follows.holds l).0 ∙ set_is name l es in
          rw w.self-inside-is (counted_set c.args.self.now (map named_view es) (map named_view (c.get_mut.follows.lender l).entries) n name (listing_view had) (listing_view l) c.self.view_is found_at w.uncount.ensures set)
      | in-None w ↦
          rw w.self-inside-is (ap (λ m. listed n (map named_view m.entries)) c.get_mut.follows.holds-at-none
          ∙ counted_none c.args.self.now (map named_view es) n name c.self.view_is (found_is name es ∙ ap (option_map listing_view) (looked_none _ _ w.in-None.is c.get_mut.ensures.value)))
    ]
