-- Whether one of some entries says that its net is of power.
use Rattle.std.proofs.Common.{◌≡◌, ◌<◌, ◌≤◌, ◌+◌, ℕ, Bool, false, ◌||◌, List, ◌∷◌, map, filter_map, length, drop, get_or, refl, sym, ap, ◌∙◌, Option, Some, None}
use Rattle.std.proofs.lemmas.List.{at_drop_all, drop_more}
use Rattle.std.specs.List.{cons_option, list_any}
use Rattle.lef_grammar.specs.Library.{Library}
use Rattle.def_grammar.specs.Records.{Record}
use Rattle.connection_rules.specs.NetParts.{Wired, wired_of}
use Rattle.net_entries.specs.declared.lent_entry.LentEntry.{LentEntry}
use Rattle.net_entries.specs.NetEntries.{entry_lent, says_power}

module _ (library : Library) (design : List Record) (u : ℕ) where
  abbrev pub any_power : List LentEntry → Bool
  any_power es = list_any (λ (w : Wired). w.is_power) (filter_map (wired_of library design u) (map entry_lent es))

  first : (o : Option Wired) (ws : List Wired) → list_any (λ (w : Wired). w.is_power) (cons_option o ws) ≡ (says_power o || list_any (λ (w : Wired). w.is_power) ws)
  first None ws = refl
  first (Some w) ws = refl

  -- one entry more of a walk over them
  pub next_power : (es : List LentEntry) (i : ℕ) (e : LentEntry) (all b : Bool) → any_power (drop i es) ≡ all → i < length es → e ≡ get_or es i e
      → b ≡ says_power (wired_of library design u (entry_lent e)) → (b || any_power (drop (i + 1) es)) ≡ all
  next_power es i e all b so_far below is says =
      ap (λ (c : Bool). c || any_power (drop (i + 1) es)) says
      ∙ sym (first (wired_of library design u (entry_lent e)) (filter_map (wired_of library design u) (map entry_lent (drop (i + 1) es))))
      ∙ ap (λ (x : LentEntry). any_power (x ∷ drop (i + 1) es)) is
      ∙ sym (ap any_power (drop_more es i e below))
      ∙ so_far

  -- and none more
  pub last_power : (es : List LentEntry) (i : ℕ) (all : Bool) → any_power (drop i es) ≡ all → length es ≤ i → false ≡ all
  last_power es i all so_far past = sym (at_drop_all any_power es i past) ∙ so_far
