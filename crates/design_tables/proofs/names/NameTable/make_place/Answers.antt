use Rattle.std.proofs.Common.{sym, ap, ◌∙◌, ◌||◌, ◌++◌, ◌∷◌, []}
use Rattle.std.specs.Str.{bytes_eq}
use Rattle.design_tables.specs.Listings.{has_name, listed, unlisted}
use Rattle.design_tables.proofs.ListingLemmas.{has_is, has_last, known_name, listed_last, none_of, placed}
use Rattle.design_tables.proofs.names.NameTable.make_place.Goals as goal

pub returns-then-contains_key-clause-there : goal.returns-then-contains_key-clause-there
returns-then-contains_key-clause-there g c = λ n.
    known_name c.args.self.now n c.args.name.now
    (ap (has_name c.args.name.now) (sym c.self.view_is) ∙ has_is c.args.name.now c.self.inside.names.entries ∙ sym c.contains_key.ensures ∙ c.if-contains_key.true)

pub returns-clause-same : goal.returns-clause-same
returns-clause-same g c = λ n.
    ap (listed n) (placed c.args.name.now unlisted c.self.inside.names c.in_ok-name.name c.new.result c.insert.new.self.entries c.in_ok-name.ensures c.new.ensures (none_of _ _ c.if-contains_key.false c.contains_key.ensures) c.in_ok-insert.ensures.entries)
    ∙ ap (λ es. listed n (es ++ (c.args.name.now, unlisted) ∷ [])) c.self.view_is ∙ listed_last c.args.self.now n c.args.name.now

pub returns-clause-there : goal.returns-clause-there
returns-clause-there g c = λ n.
    ap (has_name n) (placed c.args.name.now unlisted c.self.inside.names c.in_ok-name.name c.new.result c.insert.new.self.entries c.in_ok-name.ensures c.new.ensures (none_of _ _ c.if-contains_key.false c.contains_key.ensures) c.in_ok-insert.ensures.entries)
    ∙ ap (λ es. has_name n (es ++ (c.args.name.now, unlisted) ∷ [])) c.self.view_is ∙ has_last c.args.self.now n c.args.name.now unlisted

pub returns-then-contains_key-clause-kept : goal.returns-then-contains_key-clause-kept
returns-then-contains_key-clause-kept g c = λ n has. has

pub returns-clause-kept : goal.returns-clause-kept
returns-clause-kept g c = λ n has. returns-clause-there g c n ∙ ap (λ b. b || bytes_eq n c.args.name.now) has
