use Rattle.std.proofs.Common.{◌++◌, ◌∷◌, [], sym, ap, ◌∙◌}
use Rattle.design_tables.specs.Changes.{is_gone, or_else_listed, without}
use Rattle.design_tables.specs.Listings.{found, has_name, listed}
use Rattle.design_tables.proofs.ListingLemmas.{copied_there, has_is, has_last, known_name, listed_both, listed_one, none_of, placed}
use Rattle.design_tables.proofs.names.NameTable.copy.Goals as goal

pub returns-then-contains_key-clause-copied : goal.returns-then-contains_key-clause-copied
returns-then-contains_key-clause-copied g c = λ n.
    copied_there c.args.self.now n c.args.name.now (without (is_gone c.args.gone.now.keys) (listed c.args.name.now c.args.from.now))
    (ap (has_name c.args.name.now) (sym c.self.view_is) ∙ has_is c.args.name.now c.self.inside.names.entries ∙ sym c.contains_key.ensures ∙ c.if-contains_key.true)

pub returns-then-contains_key-clause-there : goal.returns-then-contains_key-clause-there
returns-then-contains_key-clause-there g c = λ n.
    known_name c.args.self.now n c.args.name.now
    (ap (has_name c.args.name.now) (sym c.self.view_is) ∙ has_is c.args.name.now c.self.inside.names.entries ∙ sym c.contains_key.ensures ∙ c.if-contains_key.true)

pub returns-clause-copied : goal.returns-clause-copied
returns-clause-copied g c = λ n.
    let name = c.args.name.now in
    let left = without (is_gone c.args.gone.now.keys) (listed name c.args.from.now) in
    ap (listed n) (placed name left c.self.inside.names c.in_ok-name.name c.in_ok-listing.listing c.insert.new.self.entries c.in_ok-name.ensures c.in_ok-listing.ensures (none_of _ _ c.if-contains_key.false c.contains_key.ensures) c.in_ok-insert.ensures.entries)
    ∙ ap (λ es. listed n (es ++ (name, left) ∷ [])) c.self.view_is
    ∙ listed_both n c.args.self.now ((name, left) ∷ [])
    ∙ ap (or_else_listed (found n c.args.self.now)) (listed_one n name left)

pub returns-clause-there : goal.returns-clause-there
returns-clause-there g c = λ n.
    let name = c.args.name.now in
    let left = without (is_gone c.args.gone.now.keys) (listed name c.args.from.now) in
    ap (has_name n) (placed name left c.self.inside.names c.in_ok-name.name c.in_ok-listing.listing c.insert.new.self.entries c.in_ok-name.ensures c.in_ok-listing.ensures (none_of _ _ c.if-contains_key.false c.contains_key.ensures) c.in_ok-insert.ensures.entries)
    ∙ ap (λ es. has_name n (es ++ (name, left) ∷ [])) c.self.view_is ∙ has_last c.args.self.now n name left
