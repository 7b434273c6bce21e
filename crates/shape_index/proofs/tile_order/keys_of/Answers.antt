use Rattle.std.proofs.Common.{rules, ◌∙◌, ℕ, Bor}
use Rattle.std.proofs.lemmas.Iterator.{YieldsList-from_map, items_from_collect}
use Rattle.std.proofs.lemmas.Iterator.Consumers.{YieldsList-from_first}
use Rattle.std.proofs.lemmas.Simd.{map-map}
use Rattle.slab.specs.Slab.{entries}
use Rattle.shape_index.specs.declared.shape.Shape.{Shape}
use Rattle.shape_index.specs.Tiles.{key}
use Rattle.shape_index.proofs.SlabEntries.{id_of}
use Rattle.shape_index.proofs.tile_order.keys_of.Goals as goal

pub returns : goal.returns
returns g c =
    rw (map-map key (λ (e : ℕ × Shape). (id_of e.0, e.1)) (entries c.args.shapes.now)) (items_from_collect _ c.collect.ensures.ran (YieldsList-from_map _ (λ (e : ℕ × Shape). key (id_of e.0, e.1)) (YieldsList-from_first (λ (item : ℕ × Bor Shape). (item.0, item.1.now)) (λ rest. rest) (entries c.args.shapes.now) (c.map.ensures.source ∙ c.iter.ensures.rest)) c.map.ensures.closure (λ x r q k. search rules)))
