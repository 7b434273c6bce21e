-- Stretches of a text in pieces that are read again.
use Rattle.std.specs.Prelude.{◌≡◌, ◌<◌, ◌≤◌, ℕ, List, [], ◌∷◌, ◌++◌, length, map, Result, Ok, Err}
use Rattle.std.specs.List.{concat}
use Rattle.design_model.specs.declared.fault.Fault as fault
use Rattle.design_model.specs.declared.fault.ReadError.{ReadError}
use Rattle.design_model.specs.declared.fault.ReadError.TheVariants.{Fault, Memory}
use Rattle.design_model.specs.declared.mode.Mode.{Mode}
use Rattle.design_model.specs.declared.mode.Mode.TheVariants.{Top, After}
use Rattle.statement_model.specs.Cuts.{Cut, with_cuts}
use Rattle.def_grammar.specs.Records.{Record, def}
use Rattle.piece_laws.specs.Pieces.{AreApart, AreChained, IsTail, modes_from}
use Rattle.text_pieces.specs.Chunks.{ids_at}
use Rattle.text_pieces.specs.Content.{Content, bytes_of, read_keyless, text_of}
use Rattle.text_pieces.specs.Lists.{ids_left}
use Rattle.text_pieces.specs.NewStretches.{new_stretch}
use Rattle.text_pieces.specs.Storing.{news_of}
use Rattle.text_pieces.specs.Tables.{Kept, ids_before, kept_at}
use Rattle.text_pieces.specs.declared.stretch.Stretch.{Stretch}

-- kept statements one after the other, each in the mode to which the one before it leads
pub record IsChain (m : Mode) (ks : List Kept) (last : Mode) : Type 0 where
  pub recs : List Record
  pub chained : AreChained def m (bytes_of ks) recs last
  pub modes : map (λ k. k.mode) ks ≡ modes_from def m recs

-- pieces from a mode on, and what is behind the last, where a text ends
pub record EndsText (m : Mode) (ks : List Kept) (tail : List ℕ) : Type 0 where
  pub chain : IsChain m ks After
  pub apart : AreApart (bytes_of ks) tail
  pub ends : IsTail def After tail

-- one cut of the text
abbrev pub cut_text : Content → Cut → List ℕ
cut_text c cut = with_cuts (cut ∷ []) (text_of c)

-- the statements of the text with a cut made: those before a place, new ones, and those behind as many that go out
abbrev pub stretched : {A : Type 0} → Content → Stretch A → List Kept
stretched c x =
    map (kept_at c.table.slots) (ids_before c.table.chunks x.chunk x.index)
    ++ (news_of x.chunk x.pieces.items ++ map (kept_at c.table.slots) (ids_left c.table.chunks x.chunk x.index x.out))

pub record IsStretch {A : Type 0} (c : Content) (cut : Cut) (x : Stretch A) : Type 0 where
  pub within : x.chunk < length c.table.chunks
  pub inside : x.index ≤ length (ids_at c.table.chunks x.chunk)
  pub ends : EndsText Top (stretched c x) x.tail.items
  pub whole : concat (bytes_of (stretched c x)) ++ x.tail.items ≡ cut_text c cut
  pub read : x.reads ≡ length x.pieces.items
  pub few : x.reads ≤ length (new_stretch (text_of c) cut)

-- what reading again says where a cut is made; that a text has a fault is said, and not which
abbrev pub ReadsStretch : {A : Type 0} → Content → Cut → Result (Stretch A) ReadError → Type 0
ReadsStretch c cut (Ok x) = IsStretch c cut x
ReadsStretch c cut (Err (Fault f)) = (e : fault.Fault) × (read_keyless (cut_text c cut) ≡ Err e)
ReadsStretch c cut (Err Memory) = Unit {0}
