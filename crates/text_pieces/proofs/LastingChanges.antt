-- Changes that last while others are prepared.
use Rattle.std.proofs.Common.{◌≡◌, ℕ, List, Option, refl, sym, ap, ap₂, ◌∙◌, subst}
use Rattle.std.specs.List.{zip}
use Rattle.design_model.specs.declared.identifier.StmtId.{StmtId}
use Rattle.text_pieces.specs.Changes.{Prepared, IsBetween}
use Rattle.text_pieces.specs.Chunks.{Numbers, all_ids, exchanged}
use Rattle.text_pieces.specs.Content.{Content, text_of}
use Rattle.text_pieces.specs.Lasting.{Leads}
use Rattle.text_pieces.specs.Preparing.{StandsStill}
use Rattle.text_pieces.specs.Storing.{StaysKept}
use Rattle.text_pieces.specs.Tables.{Kept, ids_of}
use Rattle.text_pieces.proofs.PutPieces.{text_same, text_stays}
use Rattle.text_pieces.proofs.StoredPieces.{stays_on}

pub stands_same : (c : Content) → StandsStill c c
stands_same c = record { chunks = refl; kept = λ n k e. e; tail = refl; len = refl; text = refl }

pub stands_on : (a b c : Content) → StandsStill a b → StandsStill b c → StandsStill a c
stands_on a b c s t = record {
  chunks = t.chunks ∙ s.chunks;
  kept = stays_on a.table.slots b.table.slots c.table.slots s.kept t.kept;
  tail = t.tail ∙ s.tail;
  len = t.len ∙ s.len;
  text = t.text ∙ s.text;
}

pub same_numbers : (old new : Content) → StandsStill old new → ids_of new.table ≡ ids_of old.table
same_numbers old new s = ap all_ids s.chunks

-- what is said of the text alone is the same under each number
pub same_under : {X : Type 0} (f : List ℕ → List X) (old new : Content) → StandsStill old new → zip (ids_of new.table) (f (text_of new)) ≡ zip (ids_of old.table) (f (text_of old))
same_under f old new s = ap₂ (λ (ids : List StmtId) (text : List ℕ). zip ids (f text)) (same_numbers old new s) s.text

-- a content with what is kept in another
abbrev kept_as : List (Option Kept) → Content → Content
kept_as slots d = record { table = record { chunks = d.table.chunks; slots = slots }; tail = d.tail; len = d.len }

module _ (c now other : Content) (p : Prepared) (s : StandsStill c now) (b : IsBetween c p c other) where
  stays : StaysKept other.table.slots now.table.slots
  stays = subst (λ (l : List (Option Kept)). StaysKept l now.table.slots) (ap (λ (d : Content). d.table.slots) b.other_is) s.kept

  between_now : IsBetween now p now (kept_as now.table.slots other)
  between_now = record {
    places = rw s.chunks b.places;
    base_is = refl;
    other_is =
        ap (λ (cs : List Numbers). record { table = record { chunks = (exchanged cs p.changes).0; slots = now.table.slots }; tail = p.tail; len = p.len }) s.chunks
        ∙ ap (kept_as now.table.slots) b.other_is;
    text = text_stays other b.text now.table.slots stays other.table.chunks refl;
    front = b.front;
    rest = b.rest;
    goes = same_numbers c now s ∙ b.goes;
    comes = b.comes;
  }

  other_stands : StandsStill other (kept_as now.table.slots other)
  other_stands = record { chunks = refl; kept = stays; tail = refl; len = refl; text = text_same other b.text now.table.slots stays other.table.chunks refl }

pub leads_other : (c base other : Content) (p : Prepared) → IsBetween c p base other → Leads c p other
leads_other c base other p b = record { other = other; between = subst (λ (d : Content). IsBetween c p d other) (sym b.base_is) b; still = stands_same other }

pub lasts : (c now d : Content) (p : Prepared) → Leads c p d → StandsStill c now → Leads now p d
lasts c now d p l s = record {
  other = kept_as now.table.slots l.other;
  between = between_now c now l.other p s l.between;
  still = stands_on d l.other (kept_as now.table.slots l.other) l.still (other_stands c now l.other p s l.between);
}

pub leads_also : (c d e : Content) (p : Prepared) → Leads c p d → StandsStill e d → Leads c p e
leads_also c d e p l s = record { other = l.other; between = l.between; still = stands_on e d l.other s l.still }

-- a change that is made leads back
pub leads_back : (old new d : Content) (p q : Prepared) → ((base other : Content) → IsBetween old p base other → IsBetween new q other base) → Leads old p d → StandsStill d new × Leads new q old
leads_back old new d p q turns l =
    let b = turns old l.other l.between in (
      subst (StandsStill d) (sym b.base_is) l.still,
      record { other = old; between = subst (λ (e : Content). IsBetween new q e old) (sym b.base_is) b; still = stands_same old },
    )
