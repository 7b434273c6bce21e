-- Several cuts of a text, in order.
use Rattle.std.specs.Prelude.{◌≡◌, ◌≤◌, ◌<◌, ℕ, List, [], ◌∷◌, ◌++◌, length, drop, slice_range, Result, Ok, Err}
use Rattle.design_model.specs.declared.TheConstants.{MAX_TEXT}
use Rattle.design_model.specs.declared.fault.Fault as fault
use Rattle.statement_model.specs.Cuts.{Cut, cut_from, with_cuts}
use Rattle.text_pieces.specs.Changes.{Prepared}
use Rattle.text_pieces.specs.Content.{Content, read_keyless, text_of}
use Rattle.text_pieces.specs.Preparing.{IsPrepared}
use Rattle.text_pieces.specs.declared.prepared.PrepareError.{PrepareError}
use Rattle.text_pieces.specs.declared.prepared.PrepareError.TheVariants.{Fault, Memory, Range, TooLong}
use Rattle.text_pieces.specs.declared.prepared.TextCut.{TextCut}

abbrev pub cut_of : TextCut → Cut
cut_of c = record { lo = c.lo; hi = c.hi; put = c.put.now }

-- the cuts stand in order, from a place on, within a length
abbrev pub AreInOrder : ℕ → List Cut → ℕ → Type 0
AreInOrder at [] n = at ≤ n
AreInOrder at (c ∷ cs) n = (at ≤ c.lo) × (c.lo ≤ c.hi) × AreInOrder c.hi cs n

-- where the last of some cuts ends, and what is to stand from a place up to there with all made
abbrev pub last_hi : ℕ → List Cut → ℕ
last_hi at [] = at
last_hi at (c ∷ cs) = last_hi c.hi cs

abbrev pub put_from : ℕ → List Cut → List ℕ → List ℕ
put_from at [] text = []
put_from at (c ∷ cs) text = slice_range text at c.lo ++ (c.put ++ put_from c.hi cs text)

-- the one cut that covers all, from where the first begins to where the last ends
abbrev pub cover_of : List ℕ → List Cut → Cut
cover_of text [] = record { lo = 0; hi = 0; put = [] }
cover_of text (c ∷ cs) = record { lo = c.lo; hi = last_hi c.lo (c ∷ cs); put = put_from c.lo (c ∷ cs) text }

-- bytes that, up to an end, take the place of what stands from a place on, are those of the cuts
pub record IsCover (text : List ℕ) (from : ℕ) (cuts : List Cut) (put : List ℕ) (end : ℕ) : Type 0 where
  pub order : AreInOrder from cuts (length text)
  pub low : from ≤ end
  pub high : end ≤ length text
  pub is : put ++ drop end text ≡ cut_from from cuts text
  pub last : end ≡ last_hi from cuts
  pub exact : put ≡ put_from from cuts text

-- there are none: the cuts are out of order, or memory was refused
abbrev pub HasNoCover : List ℕ → ℕ → List Cut → PrepareError → Type 0
HasNoCover text from cuts Range = AreInOrder from cuts (length text) → ⊥
HasNoCover text from cuts Memory = Unit {0}
HasNoCover text from cuts TooLong = ⊥
HasNoCover text from cuts Fault = ⊥

-- what preparing the change of all cuts answers, as for one
abbrev pub PreparesAll : Content → Content → List Cut → Result Prepared PrepareError → Type 0
PreparesAll old new cuts (Ok p) = IsPrepared old new (with_cuts cuts (text_of old)) p
PreparesAll old new cuts (Err Range) = AreInOrder 0 cuts (length (text_of old)) → ⊥
PreparesAll old new cuts (Err TooLong) = AreInOrder 0 cuts (length (text_of old)) × (MAX_TEXT < length (with_cuts cuts (text_of old)))
PreparesAll old new cuts (Err Fault) = (e : fault.Fault) × (read_keyless (with_cuts cuts (text_of old)) ≡ Err e)
PreparesAll old new cuts (Err Memory) = Unit {0}
