-- The flat lists grow as the nets do.
use Rattle.std.proofs.Common.{◌≡◌, ℕ, suc, ◌+◌, ◌<◌, ◌≤◌, List, [], ◌∷◌, ◌++◌, length, map, flat_map, sum_by, drop, take, get_or, refl, sym, ap, ap₂, ◌∙◌, arith}
use Rattle.std.proofs.lemmas.List.{length_push, length-take-le, map_push}
use Rattle.std.proofs.lemmas.List.Sums.{sum_by_push}
use Rattle.connection_rules.specs.NetLines as net_lines
use Rattle.connection_rules.specs.NetLines.{shapes_of_net}
use Rattle.connection_rules.specs.NetParts.{Net, Part}
use Rattle.net_lists.specs.Building.{bare_net, bare_part, change_last, last_parts, part_added, shape_added, shape_in_last_part, with_part, with_shape}
use Rattle.net_lists.specs.Counts.{part_count, shape_count}
use Rattle.net_lists.specs.NetViews.{AddUp, head_view, nets_of, net_with}
use Rattle.net_lists.specs.PartCuts.{cut, part_with, parts_of, shape_view}
use Rattle.net_lists.specs.Heads.{head_of}
use Rattle.net_lists.specs.declared.parts.NetHead.{NetHead}
use Rattle.net_lists.specs.declared.parts.NetShape.{NetShape}
use Rattle.net_lists.specs.declared.parts.PartHead.{PartHead}
use Rattle.net_lists.proofs.ShapeLemmas.{shapes_in_nets, shapes_in_parts}
use Rattle.net_lists.proofs.CutLemmas.{cut_bare, cut_changed, cut_length, cut_more, change_length, first_fits, last_fits, last_read, last_of, more_counted, one_counted, others_counted}

-- the last net has as many parts as its head counts
last_parts_length : (hs : List NetHead) (qs : List Part) → sum_by part_count hs ≡ length qs → length (last_parts (cut part_count net_with hs qs)) ≡ last_of 0 part_count hs
last_parts_length [] qs l = refl
last_parts_length (h ∷ []) qs l = let e = one_counted part_count h qs l in length-take-le h.parts qs (omega (arith, e))
last_parts_length (h ∷ k ∷ hs) qs l = last_parts_length (k ∷ hs) (drop h.parts qs) (others_counted part_count h (k ∷ hs) qs l)

heads_are : (hs : List NetHead) (qs : List Part) → sum_by part_count hs ≡ length qs → map head_view hs ≡ map head_of (cut part_count net_with hs qs)
heads_are [] qs l = refl
heads_are (h ∷ hs) qs l =
    let e : length (take h.parts qs) ≡ h.parts = length-take-le h.parts qs (first_fits part_count h hs qs l) in
    ap₂ (λ k xs. record { name = h.name.now; is_power = h.is_power; parts = k } ∷ xs) (sym e) (heads_are hs (drop h.parts qs) (others_counted part_count h hs qs l))

abbrev pub part_more : NetHead → NetHead
part_more h = record { name = h.name; is_power = h.is_power; parts = h.parts + 1 }

abbrev pub shape_more : PartHead → PartHead
shape_more p = record { is_pin = p.is_pin; shapes = p.shapes + 1 }

module _ (hs : List NetHead) (ps : List PartHead) (ss : List NetShape) (held : AddUp hs ps ss) where
  abbrev nets : List Net
  nets = nets_of hs ps ss

  abbrev parts : List Part
  parts = parts_of ps ss

  counted : sum_by part_count hs ≡ length parts
  counted = held.parts ∙ sym (cut_length shape_count part_with ps ss)

  pub net_count : length nets ≡ length hs
  net_count = cut_length part_count net_with hs parts

  -- a caller knows of some nets, or of some parts
  pub has_nets : (now : List Net) → nets ≡ now → 0 < length now → 0 < length hs
  has_nets now is some = let e = net_count in let f = ap length is in omega (arith, e, f, some)

  pub has_part : (now : List Net) → nets ≡ now → 0 < length (last_parts now) → 0 < length (last_parts nets)
  has_part now is some = let f = ap (λ ns. length (last_parts ns)) is in omega (arith, f, some)

  pub last_shapes : (i : ℕ) (p : PartHead) → suc i ≡ length ps → p ≡ get_or ps i p → p.shapes ≤ length ss
  last_shapes i p l is = let e = last_read 0 shape_count ps i p l is in let f = last_fits shape_count ps in let g = held.shapes in omega (arith, e, f, g)

  pub heads : map head_view hs ≡ map head_of nets
  heads = heads_are hs parts counted

  pub all_shapes : map shape_view ss ≡ map (λ (s : net_lines.NetShape). s.shape) (flat_map shapes_of_net nets)
  all_shapes = sym (shapes_in_nets hs parts counted ∙ shapes_in_parts ps ss held.shapes)

  pub with_net : (h : NetHead) → h.parts ≡ 0 → nets_of (hs ++ h ∷ []) ps ss ≡ nets ++ bare_net h.name.now h.is_power ∷ []
  with_net h none = cut_bare part_count net_with h none hs parts counted

  pub net_held : (h : NetHead) → h.parts ≡ 0 → AddUp (hs ++ h ∷ []) ps ss
  net_held h none = record {
    parts = let e = sum_by_push part_count hs h in let l = held.parts in omega (arith, e, l, none);
    shapes = held.shapes;
  }

  module _ (p : PartHead) (none : p.shapes ≡ 0) (some : 0 < length hs) where
    pub part_begun : nets_of (change_last part_more hs) (ps ++ p ∷ []) ss ≡ with_part p.is_pin nets
    part_begun =
        ap (cut part_count net_with (change_last part_more hs)) (cut_bare shape_count part_with p none ps ss held.shapes)
        ∙ cut_more part_count net_with part_more (part_added p.is_pin) (bare_part p.is_pin) (λ h. refl) (λ h qs. refl) hs parts counted

    pub part_held : AddUp (change_last part_more hs) (ps ++ p ∷ []) ss
    part_held = record {
      parts = let e = more_counted part_count part_more (λ h. refl) hs some in let l = length_push ps p in let m = held.parts in omega (arith, e, l, m);
      shapes = let e = sum_by_push shape_count ps p in let m = held.shapes in omega (arith, e, m, none);
    }

  module _ (some : 0 < length (last_parts nets)) where
    last_counts : 0 < last_of 0 part_count hs
    last_counts = let e = last_parts_length hs parts counted in omega (arith, e, some)

    pub some_parts : 0 < length ps
    some_parts = let e = held.parts in let f = last_fits part_count hs in let s = last_counts in omega (arith, e, f, s)

    module _ (s : NetShape) where
      pub shape_pushed : nets_of hs (change_last shape_more ps) (ss ++ s ∷ []) ≡ with_shape (shape_view s) nets
      shape_pushed =
          ap (cut part_count net_with hs) (cut_more shape_count part_with shape_more (shape_added (shape_view s)) s (λ p. refl) (λ p os. ap (λ xs. record { is_pin = p.is_pin; shapes = xs }) (map_push shape_view os s)) ps ss held.shapes)
          ∙ cut_changed part_count net_with (shape_added (shape_view s)) (shape_in_last_part (shape_view s)) (λ h qs. refl) hs parts counted last_counts

      pub shape_held : AddUp hs (change_last shape_more ps) (ss ++ s ∷ [])
      shape_held = record {
        parts = held.parts ∙ sym (change_length shape_more ps);
        shapes = let e = more_counted shape_count shape_more (λ p. refl) ps some_parts in let l = length_push ss s in let m = held.shapes in omega (arith, e, l, m);
      }
