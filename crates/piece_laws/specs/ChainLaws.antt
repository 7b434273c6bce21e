-- Laws of pieces that are chained.
use Rattle.std.specs.Prelude.{◌≡◌, ◌↔◌, ℕ, List, ◌++◌}
use Rattle.std.specs.List.{concat, fold}
use Rattle.statement_model.specs.Grammar.{Grammar}
use Rattle.piece_laws.specs.Pieces.{AreApart, AreChained, modes_from}

module _ {M R : Type 0} (g : Grammar M R) where
  -- Pieces that lead to where others begin are chained with them.
  abbrev pub ChainsJoin : Type 0
  ChainsJoin = (first mid last : M) (ps qs : List (List ℕ)) (rs ss : List R)
      → AreChained g first ps rs mid
      → AreChained g mid qs ss last
      → AreChained g first (ps ++ qs) (rs ++ ss) last

  -- Pieces that are chained are so in two parts: those before a place, and those from there on.
  abbrev pub ChainsPart : Type 0
  ChainsPart = (first last : M) (ps qs : List (List ℕ)) (recs : List R)
      → AreChained g first (ps ++ qs) recs last
      → (mid : M)
      × (rs : List R)
      × (ss : List R)
      × (recs ≡ rs ++ ss)
      × AreChained g first ps rs mid
      × AreChained g mid qs ss last

  -- Where pieces lead is said by what they say.
  abbrev pub ChainsLead : Type 0
  ChainsLead = (first last : M) (ps : List (List ℕ)) (recs : List R) → AreChained g first ps recs last → last ≡ fold g.after first recs

  -- The modes of records and then others are those of the first, and then those of the others from where the first lead.
  abbrev pub ModesJoin : Type 0
  ModesJoin = (m : M) (rs ss : List R) → modes_from g m (rs ++ ss) ≡ modes_from g m rs ++ modes_from g (fold g.after m rs) ss

-- Pieces and then others stand apart exactly where the first do before the others, and the others by themselves.
abbrev pub ApartJoins : Type 0
ApartJoins = (ps qs : List (List ℕ)) (rest : List ℕ) → AreApart (ps ++ qs) rest ↔ (AreApart ps (concat qs ++ rest) × AreApart qs rest)
