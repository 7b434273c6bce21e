-- Statements that show the same as others.
use Rattle.std.proofs.Common.{◌≡◌, List, [], ◌∷◌, ◌++◌, filter, refl, sym, ap, ap₂, ◌∙◌}
use Rattle.std.specs.Prelude.{Option}
use Rattle.std.proofs.lemmas.List.{map-append}
use Rattle.design_model.specs.declared.identifier.StmtId.{StmtId}
use Rattle.def_grammar.specs.Records.{Entry, Record, entry}
use Rattle.agreement_laws.specs.Agreement.{Shown, is_named, outline_of, shown}
use Rattle.text_pieces.specs.Tables.{Kept}
use Rattle.design_text.specs.Exchanges.{Exchanged, IsExchange}
use Rattle.followed_statements.specs.Following.{ShowSame, said}
use Rattle.followed_statements.proofs.ExchangeLemmas.{kept, said_parted}
use Rattle.followed_statements.proofs.SeenLemmas.{shown-append}

-- two entries that show the same
pub entries_same : (a b : Entry) → shown a ≡ shown b → ShowSame (entry a ∷ []) (entry b ∷ [])
entries_same a b same = record { shown = ap (λ (x : Shown). filter is_named (x ∷ [])) same; outline = refl }

-- some behind others
pub both : (a b c d : List Record) → ShowSame a b → ShowSame c d → ShowSame (a ++ c) (b ++ d)
both a b c d f g = record {
  shown = shown-append a c ∙ ap₂ (λ (l m : List Shown). l ++ m) f.shown g.shown ∙ sym (shown-append b d);
  outline = map-append outline_of a c ∙ ap₂ (λ l m. l ++ m) f.outline g.outline ∙ sym (map-append outline_of b d);
}

pub as_they_are : (rs : List Record) → ShowSame rs rs
as_they_are rs = record { shown = refl; outline = refl }

pub chain : (a b c : List Record) → ShowSame a b → ShowSame b c → ShowSame a c
chain a b c f g = record { shown = f.shown ∙ g.shown; outline = f.outline ∙ g.outline }

-- where those that went show the same as those that came
pub exchange_shows : (slots : List (Option Kept)) (old new : List (StmtId × Record)) (x : Exchanged) → IsExchange slots old new x → ShowSame (kept slots x.went) (kept slots x.came) → ShowSame (said old) (said new)
exchange_shows slots old new x e same =
    let front = kept slots e.front in
    let rest = kept slots e.rest in
    let all = both front front (kept slots x.went ++ rest) (kept slots x.came ++ rest) (as_they_are front) (both (kept slots x.went) (kept slots x.came) rest rest same (as_they_are rest)) in
    rw (ap said e.old_is ∙ said_parted slots e.front x.went e.rest, ap said e.new_is ∙ said_parted slots e.front x.came e.rest) all
