-- What is made of statements chunk by chunk.
use Rattle.std.proofs.Common.{◌≡◌, ◌<◌, ◌≤◌, ◌+◌, ℕ, List, [], ◌∷◌, ◌++◌, Option, append-nil, append_assoc, drop, length, map, refl, sym, ap, ◌∙◌}
use Rattle.std.proofs.lemmas.List.{drop_all}
use Rattle.design_model.specs.declared.identifier.StmtId.{StmtId}
use Rattle.def_grammar.specs.Records.{Record}
use Rattle.text_pieces.specs.Chunks.{ChunksGoOn, Numbers, all_ids, ids_at}
use Rattle.text_pieces.specs.KeptRecords.{AreKept, record_of, records_under}
use Rattle.text_pieces.specs.Tables.{Kept, ids_of, kept_at}
use Rattle.design_text.specs.DesignTexts.{Content, design_of}
use Rattle.design_text.specs.Exchanges.{records_in}

-- what is kept under a number says this
abbrev pub says : List (Option Kept) → StmtId → Record
says slots id = record_of (kept_at slots id)

pub said_under : (slots : List (Option Kept)) (ids : List StmtId) → map (λ x. x.1) (records_under slots ids) ≡ map (says slots) ids
said_under slots [] = refl
said_under slots (id ∷ ids) = ap (λ (l : List Record). says slots id ∷ l) (said_under slots ids)

-- what a text says is what is kept under its numbers
pub design_is_kept : (c : Content) → AreKept c.pieces → map (λ x. x.1) (records_in c) ≡ design_of c → map (says c.pieces.table.slots) (ids_of c.pieces.table) ≡ design_of c
design_is_kept c kept said = sym (said_under c.pieces.table.slots (ids_of c.pieces.table)) ∙ ap (map (λ x. x.1)) (sym kept.says) ∙ said

module _ {X : Type 0} (made : List StmtId → List X) (parted : (a b : List StmtId) → made (a ++ b) ≡ made a ++ made b) (chunks : List Numbers) where
  -- what is made of the statements of a chunk is put behind what was made of those before it
  pub one_chunk : ChunksGoOn → (k : ℕ) (old new all : List X) → k < length chunks → new ≡ old ++ made (ids_at chunks k)
      → old ++ made (all_ids (drop k chunks)) ≡ all → new ++ made (all_ids (drop (k + 1) chunks)) ≡ all
  one_chunk go_on k old new all below put so_far =
      ap (λ (l : List X). l ++ made (all_ids (drop (k + 1) chunks))) put
      ∙ append_assoc old (made (ids_at chunks k)) (made (all_ids (drop (k + 1) chunks)))
      ∙ ap (λ (l : List X). old ++ l) (sym (ap made (go_on chunks k below) ∙ parted (ids_at chunks k) (all_ids (drop (k + 1) chunks))))
      ∙ so_far

  -- behind the last chunk nothing is left
  pub all_chunks : made [] ≡ [] → (k : ℕ) (made_so all : List X) → length chunks ≤ k → made_so ++ made (all_ids (drop k chunks)) ≡ all → made_so ≡ all
  all_chunks none k made_so all past so_far =
      sym (append-nil made_so)
      ∙ ap (λ (l : List X). made_so ++ l) (sym (ap (λ (cs : List Numbers). made (all_ids cs)) (drop_all k chunks past) ∙ none))
      ∙ so_far
