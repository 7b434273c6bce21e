-- The nets of a design, group by group.
use Rattle.std.proofs.Common.{◌≡◌, ◌≤◌, ◌+◌, ℕ, Bool, List, [], ◌∷◌, ◌++◌, map, filter, drop, length, refl, sym, ap, ◌∙◌, append_assoc, Some, slice_get}
use Rattle.std.proofs.lemmas.List.{append-nil, drop_all, drop_more}
use Rattle.std.proofs.lemmas.Option.{slice_get_within, get_or_from_slice_get}
use Rattle.std.specs.List.{sum_by}
use Rattle.drawn_parts.specs.DrawnLengths.{capped}
use Rattle.net_lists.specs.Building.{bare_net, with_part, with_parts, with_shapes}
use Rattle.net_lists.specs.Laws.{BuildingANet}
use Rattle.lef_grammar.specs.Library.{Library}
use Rattle.def_grammar.specs.Records.{Record}
use Rattle.form_meanings.specs.Firsts.{with_all}
use Rattle.connection_rules.specs.NetParts.{Net, Part, Wired, all_nets, is_named, net_names, net_of}
use Rattle.connection_rules.specs.Terminals.{pins_by_name}
use Rattle.measure_rules.specs.Lengths.{length_of, wired_length}
use Rattle.name_groups.specs.Groups.{grouped, of_name}
use Rattle.net_entries.specs.NetEntries.{wired_in, wired_name}
use Rattle.design_nets.specs.NetGroups.{length_of_group, net_of_group}

module _ (library : Library) (design : List Record) (u : ℕ) where
  by_names : (ws : List Wired) (names : List (List ℕ)) → map (net_of_group library design u) (map (λ n. record { name = n; members = of_name wired_name n ws }) names)
      ≡ map (λ n. net_of library.layers (pins_by_name library design u) n (filter (is_named library design u n) ws)) names
  by_names ws [] = refl
  by_names ws (n ∷ names) = ap (λ (ns : List Net). net_of library.layers (pins_by_name library design u) n (filter (is_named library design u n) ws) ∷ ns) (by_names ws names)

  pub nets_by_groups : map (net_of_group library design u) (grouped wired_name (wired_in library design u design)) ≡ all_nets library design u
  nets_by_groups = by_names (wired_in library design u design) (with_all (λ n. n) [] (map wired_name (wired_in library design u design)))

  lengths_by_names : (ws : List Wired) (names : List (List ℕ)) → map length_of_group (map (λ n. record { name = n; members = of_name wired_name n ws }) names)
      ≡ map (λ n. capped (sum_by wired_length (filter (is_named library design u n) ws))) names
  lengths_by_names ws [] = refl
  lengths_by_names ws (n ∷ names) = ap (λ (ls : List ℕ). capped (sum_by wired_length (filter (is_named library design u n) ws)) ∷ ls) (lengths_by_names ws names)

  pub lengths_by_groups : map length_of_group (grouped wired_name (wired_in library design u design)) ≡ map (λ n. capped (length_of library design u n)) (net_names library design u)
  lengths_by_groups = lengths_by_names (wired_in library design u design) (with_all (λ n. n) [] (map wired_name (wired_in library design u design)))

parts_in_two : (a b : List Part) (ns : List Net) → with_parts (a ++ b) ns ≡ with_parts b (with_parts a ns)
parts_in_two [] b ns = refl
parts_in_two (p ∷ a) b ns = parts_in_two a b (with_shapes p.shapes (with_part p.is_pin ns))

-- a net that is begun, and given its pins and then what it draws
pub net_built : BuildingANet → (old : List Net) (name : List ℕ) (is_power : Bool) (pins drawn : List Part) (begun given built : List Net)
    → begun ≡ old ++ bare_net name is_power ∷ [] → given ≡ with_parts pins begun → built ≡ with_parts drawn given
    → built ≡ old ++ record { name = name; is_power = is_power; parts = pins ++ drawn } ∷ []
net_built building old name is_power pins drawn begun given built h1 h2 h3 =
    h3 ∙ ap (with_parts drawn) (h2 ∙ ap (with_parts pins) h1) ∙ sym (parts_in_two pins drawn (old ++ bare_net name is_power ∷ [])) ∙ building old name is_power (pins ++ drawn)

-- nets, or their lengths, that are put in group by group
module _ {G Y : Type 0} (net_of : G → Y) (gs : List G) (i : ℕ) (so_far all : List Y) (going : so_far ++ map net_of (drop i gs) ≡ all) where
  pub next_net : (g : G) (now : List Y) → slice_get gs i ≡ Some g → now ≡ so_far ++ net_of g ∷ [] → now ++ map net_of (drop (i + 1) gs) ≡ all
  next_net g now here put =
      ap (λ (ns : List Y). ns ++ map net_of (drop (i + 1) gs)) put
      ∙ append_assoc so_far (net_of g ∷ []) (map net_of (drop (i + 1) gs))
      ∙ ap (λ (hs : List G). so_far ++ map net_of hs) (ap (λ (x : G). x ∷ drop (i + 1) gs) (sym (get_or_from_slice_get gs i g g here)) ∙ sym (drop_more gs i g (slice_get_within gs i g here)))
      ∙ going

  pub no_net_more : length gs ≤ i → so_far ≡ all
  no_net_more past = sym (append-nil so_far) ∙ ap (λ (hs : List G). so_far ++ map net_of hs) (sym (drop_all i gs past)) ∙ going

  pub by_two : {H : Type 0} (view : G → H) (of_view : H → Y) → ((g : G) → net_of g ≡ of_view (view g)) → map net_of gs ≡ map of_view (map view gs)
  by_two view of_view same = walk gs
    where
      walk : (hs : List G) → map net_of hs ≡ map of_view (map view hs)
      walk [] = refl
      walk (h ∷ hs) = ap (λ (n : Y). n ∷ map net_of hs) (same h) ∙ ap (λ (ns : List Y). of_view (view h) ∷ ns) (walk hs)
