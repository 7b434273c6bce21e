-- Entries that are added one after the other to those of their nets.
use Rattle.std.proofs.Common.{◌≡◌, ℕ, Bool, true, false, List, [], ◌∷◌, ◌++◌, map, filter_map, option_map, refl, sym, ap, ◌∙◌, Option, Some, None, if◌then◌else◌}
use Rattle.std.proofs.lemmas.List.{append-nil, map-append}
use Rattle.std.proofs.lemmas.List.Elements.{filter_map-append}
use Rattle.std.specs.List.{cons_option}
use Rattle.std.specs.Str.{bytes_eq}
use Rattle.lef_grammar.specs.Library.{Library}
use Rattle.def_grammar.specs.Records.{Record}
use Rattle.net_entries.specs.declared.lent_entry.LentEntry.{LentEntry}
use Rattle.connection_rules.specs.NetParts.{Wired, wired_of}
use Rattle.name_groups.specs.Groups.{Group, grouped, with_member}
use Rattle.name_groups.proofs.GroupLaws.{groups_grow, grouped_none}
use Rattle.net_entries.specs.NetEntries.{entry_lent, wired_group, wired_name, with_wired}

-- entries are added one after the other
abbrev pub with_all_wired : List (Group Wired) → List Wired → List (Group Wired)
with_all_wired gs [] = gs
with_all_wired gs (w ∷ ws) = with_all_wired (with_member w.name w gs) ws

shifted : (xs : List Wired) (w : Wired) (ws : List Wired) → (xs ++ w ∷ []) ++ ws ≡ xs ++ w ∷ ws
shifted [] w ws = refl
shifted (x ∷ xs) w ws = ap (λ (ys : List Wired). x ∷ ys) (shifted xs w ws)

all_added : (xs ws : List Wired) → with_all_wired (grouped wired_name xs) ws ≡ grouped wired_name (xs ++ ws)
all_added xs [] = ap (λ ys. grouped wired_name ys) (sym (append-nil xs))
all_added xs (w ∷ ws) =
    ap (λ gs. with_all_wired gs ws) (groups_grow Wired wired_name xs w)
    ∙ all_added (xs ++ w ∷ []) ws
    ∙ ap (λ ys. grouped wired_name ys) (shifted xs w ws)

pub from_none : (ws : List Wired) → with_all_wired [] ws ≡ grouped wired_name ws
from_none ws = ap (λ gs. with_all_wired gs ws) (sym (grouped_none wired_name)) ∙ all_added [] ws

pub next_added : (o : Option Wired) (gs : List (Group Wired)) (ws : List Wired) → with_all_wired (with_wired o gs) ws ≡ with_all_wired gs (cons_option o ws)
next_added None gs ws = refl
next_added (Some w) gs ws = refl

module _ (library : Library) (design : List Record) (u : ℕ) where
  one_more : (es : List LentEntry) (e : LentEntry) (w : Wired) → wired_of library design u (entry_lent e) ≡ Some w
      → filter_map (wired_of library design u) (map entry_lent (es ++ e ∷ [])) ≡ filter_map (wired_of library design u) (map entry_lent es) ++ w ∷ []
  one_more es e w is =
      ap (λ xs. filter_map (wired_of library design u) xs) (map-append entry_lent es (e ∷ []))
      ∙ filter_map-append (wired_of library design u) (map entry_lent es) (entry_lent e ∷ [])
      ∙ ap (λ (o : Option Wired). filter_map (wired_of library design u) (map entry_lent es) ++ cons_option o []) is

  abbrev group : Group LentEntry → Group Wired
  group g = wired_group library design u g

  step : (name : List ℕ) (e : LentEntry) (w : Wired) (g : Group LentEntry) (gs : List (Group LentEntry)) → wired_of library design u (entry_lent e) ≡ Some w
      → map group (with_member name e gs) ≡ with_member name w (map group gs) → (b : Bool)
      → map group (if b then record { name = g.name; members = g.members ++ e ∷ [] } ∷ gs else g ∷ with_member name e gs)
      ≡ (if b then record { name = g.name; members = (group g).members ++ w ∷ [] } ∷ map group gs else group g ∷ with_member name w (map group gs))
  step name e w g gs is later true = ap (λ (ws : List Wired). record { name = g.name; members = ws } ∷ map group gs) (one_more g.members e w is)
  step name e w g gs is later false = ap (λ hs. group g ∷ hs) later

  entry_added : (name : List ℕ) (e : LentEntry) (w : Wired) (gs : List (Group LentEntry)) → wired_of library design u (entry_lent e) ≡ Some w
      → map group (with_member name e gs) ≡ with_member name w (map group gs)
  entry_added name e w [] is = ap (λ (ws : List Wired). record { name = name; members = ws } ∷ []) (one_more [] e w is)
  entry_added name e w (g ∷ gs) is = step name e w g gs is (entry_added name e w gs is) (bytes_eq g.name name)

  -- an entry that speaks of a net goes to those of its name
  pub named_added : (name : List ℕ) (e : LentEntry) (old new : List (Group LentEntry)) → Some name ≡ option_map wired_name (wired_of library design u (entry_lent e)) → new ≡ with_member name e old
      → map group new ≡ with_wired (wired_of library design u (entry_lent e)) (map group old)
  named_added name e old new named added = by (wired_of library design u (entry_lent e)) refl named
    where
      by : (o : Option Wired) → wired_of library design u (entry_lent e) ≡ o → Some name ≡ option_map wired_name o → map group new ≡ with_wired o (map group old)
      by None is none = cc
      by (Some w) is same =
          let name_is : name ≡ w.name = cc in
          ap (map group) added ∙ entry_added name e w old is ∙ ap (λ n. with_member n w (map group old)) name_is
