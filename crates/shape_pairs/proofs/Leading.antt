-- For callers: calls that lead over the pairs that meet, by what each of them does.
use Rattle.std.proofs.Common.{ℕ, List, [], ◌∷◌}
use Rattle.shape_pairs.specs.declared.pairs.Numbered.{Numbered}
use Rattle.shape_pairs.specs.Pairs.{CallsLead, LeadsOverMeetingPairs}

module _ {B : Type 0} (call step : B → ℕ → ℕ → B → Type 0) (steps : (a : B) (i j : ℕ) (b : B) → call a i j b → step a i j b) where
  along : (ps : List (Numbered × Numbered)) (from to : B) → CallsLead call from ps to → CallsLead step from ps to
  along [] from to e = e
  along (p ∷ ps) from to e = (e.0, steps from p.0.id p.1.id e.0 e.1, along ps e.0 to e.2)

  -- where each call makes a step, steps lead there too
  pub leads_by : (items : List Numbered) (from to : B) → LeadsOverMeetingPairs call items from to → LeadsOverMeetingPairs step items from to
  leads_by items from to l = (l.0, l.1, along l.0 from to l.2)
