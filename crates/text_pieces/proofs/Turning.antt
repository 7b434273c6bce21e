-- A change that is taken back.
use Rattle.std.proofs.Common.{◌≡◌, ℕ, List, [], ◌∷◌, length, ap, ◌∙◌, subst, set}
use Rattle.text_pieces.specs.Changes.{Prepared, changed, back, IsBetween}
use Rattle.text_pieces.specs.Chunks.{Numbers, Replacement, exchanged, IsElsewhere, ArePlaces}
use Rattle.text_pieces.specs.Content.{Content, IsText}
use Rattle.text_pieces.proofs.Exchanges.{exchanges_undo, length-exchanged}

elsewhere_back : (cs : List Numbers) (rs : List Replacement) (p : ℕ) → IsElsewhere p rs → IsElsewhere p (exchanged cs rs).1
elsewhere_back cs [] p h = tt
elsewhere_back cs (r ∷ rs) p h = (h.0, elsewhere_back (set cs r.0 r.1) rs p h.1)

places_back : (n : ℕ) (cs : List Numbers) (rs : List Replacement) → ArePlaces n rs → ArePlaces n (exchanged cs rs).1
places_back n cs [] h = tt
places_back n cs (r ∷ rs) h = (h.0, elsewhere_back (set cs r.0 r.1) rs r.0 h.1, places_back n (set cs r.0 r.1) rs h.2)

undone : (c : Content) (p : Prepared) → ArePlaces (length c.table.chunks) p.changes → changed (changed c p) (back c p) ≡ c
undone c p h = ap (λ (e : List Numbers × List Replacement). record { table = record { chunks = e.0; slots = c.table.slots }; tail = c.tail; len = c.len }) (exchanges_undo c.table.chunks p.changes h)

pub turned : (c : Content) (p : Prepared) (base other : Content) → IsText c → IsBetween c p base other → IsBetween (changed c p) (back c p) other base
turned c p base other t b = record {
  places = rw (length-exchanged c.table.chunks p.changes) (places_back (length c.table.chunks) c.table.chunks p.changes b.places);
  base_is = b.other_is;
  other_is = undone c p b.places ∙ b.base_is;
  text = subst IsText b.base_is t;
  front = b.front;
  rest = b.rest;
  goes = b.comes;
  comes = b.goes;
}

-- the content and the change as they are after an exchange
abbrev pub content_of : List Numbers → Content → List ℕ → ℕ → Content
content_of chunks c tail len = record { table = record { chunks = chunks; slots = c.table.slots }; tail = tail; len = len }

pub finish : (c : Content) (p : Prepared) (chunks : List Numbers) (changes : List Replacement) (base other : Content) → IsText c → IsBetween c p base other
    → chunks ≡ (exchanged c.table.chunks p.changes).0 → changes ≡ (exchanged c.table.chunks p.changes).1
    → IsBetween (content_of chunks c p.tail p.len) (record { changes = changes; tail = c.tail; len = c.len; out = p.put; put = p.out; reads = p.reads }) other base
finish c p chunks changes base other t b e f = rw (e, f) (turned c p base other t b)
