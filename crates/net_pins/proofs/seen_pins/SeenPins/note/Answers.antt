use Rattle.std.proofs.Common.{List, ap, map, not, rules, sym, ◌∙◌, ◌++◌}
use Rattle.std.specs.List.{list_any}
use Rattle.net_pins.specs.SeenViews.{is_same_pin, words_of}
use Rattle.net_pins.specs.declared.seen_pins.PinWords.{PinWords}
use Rattle.net_pins.proofs.SeenLemmas.{is_behind, is_first, is_kept, is_new_first, with_first, with_listed}
use Rattle.net_pins.proofs.seen_pins.SeenPins.note.Goals as goal

pub returns-then-contains-clause-is_new : goal.returns-then-contains-clause-is_new
returns-then-contains-clause-is_new g c =
    let s = c.self.inside in
    rw (← c.self.view_is) (ap not (sym (is_first c.args.pin s.first.items (s.further.keys ++ s.unlisted.items) c.contains.result (rw (c.as_slice.ensures.value) at c.contains.ensures.value) c.if-contains.true)))

pub returns-then-contains-clause-noted : goal.returns-then-contains-clause-noted
returns-then-contains-clause-noted g c =
    let s = c.self.inside in
    rw (← c.self.view_is) (is_kept c.args.pin s.first.items (s.further.keys ++ s.unlisted.items) c.contains.result (rw (c.as_slice.ensures.value) at c.contains.ensures.value) c.if-contains.true)

pub returns-then-len-lt-FEW-clause-is_new : goal.returns-then-len-lt-FEW-clause-is_new
returns-then-len-lt-FEW-clause-is_new g c =
    let s = c.self.inside in
    let none = c.self.invariant.few (search rules) in
    rw (← c.self.view_is) (ap not (sym (is_new_first c.args.pin s.first.items (s.further.keys ++ s.unlisted.items) c.contains.result (rw (c.as_slice.ensures.value) at c.contains.ensures.value) c.if-contains.false none)))

pub returns-then-len-lt-FEW-clause-noted : goal.returns-then-len-lt-FEW-clause-noted
returns-then-len-lt-FEW-clause-noted g c =
    let s = c.self.inside in
    let none = c.self.invariant.few (search rules) in
    rw (← c.self.view_is)
    (ap (λ (ks : List PinWords). map words_of (ks ++ (s.further.keys ++ s.unlisted.items))) c.in_ok-push.ensures.items
    ∙ with_first c.args.pin s.first.items (s.further.keys ++ s.unlisted.items) c.contains.result (rw (c.as_slice.ensures.value) at c.contains.ensures.value) c.if-contains.false none)

pub returns-clause-is_new : goal.returns-clause-is_new
returns-clause-is_new g c =
    let s = c.self.inside in
    let further = s.further.keys ++ s.unlisted.items in
    rw (← c.self.view_is)
    (c.in_ok-is_new.ensures.added
    ∙ ap (λ (ks : List PinWords). not (list_any (is_same_pin c.args.pin) ks)) (c.in_ok-listed.ensures ∙ ap (λ (ks : List PinWords). s.further.keys ++ ks) c.deref.ensures.value)
    ∙ ap not (sym (is_behind c.args.pin s.first.items further c.contains.result (rw (c.as_slice.ensures.value) at c.contains.ensures.value) c.if-contains.false)))

pub returns-clause-noted : goal.returns-clause-noted
returns-clause-noted g c =
    let s = c.self.inside in
    let further = s.further.keys ++ s.unlisted.items in
    rw (← c.self.view_is)
    (with_listed c.args.pin s.first.items further c.contains.result (rw (c.as_slice.ensures.value) at c.contains.ensures.value) c.if-contains.false
    c.put_into-listed.new.table.keys c.insert.new.self.keys c.clear.new.self.items
    (c.in_ok-listed.ensures ∙ ap (λ (ks : List PinWords). s.further.keys ++ ks) c.deref.ensures.value) c.in_ok-is_new.ensures.keys c.clear.ensures.items)
