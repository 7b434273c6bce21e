use Rattle.std.proofs.Common.{◌∙◌, sym}
use Rattle.design_text.specs.DesignTexts.{design_of}
use Rattle.followed_nets.proofs.ToldNets.{no_other_lists}
use Rattle.followed_nets.proofs.star_heads.StarHeads.others_listing.Goals as goal

pub returns : goal.returns
returns g c =
    let design = design_of c.args.text.now in
    let are = rw (← c.self.view_is) at c.requires in
    let listing = rw (c.in-Some.is) at c.in_ok-listing.ensures.listing in
    let once = rw (c.in-Some.is) at c.in_ok-listing.ensures.apart in
    let apart = rw (c.deref.ensures.value, c.deref-2.ensures.value) at c.in_ok-names.ensures.apart in
    let cover = rw (c.deref.ensures.value, c.deref-2.ensures.value) at c.in_ok-names.ensures.all in
    rw (← c.self.view_is) (record {
      apart = apart once are.names.apart;
      lists = no_other_lists c.args.component.now (sym c.is_word.ensures ∙ c.if-is_word.false) (sym c.is_word-else-is_word.ensures ∙ c.if-is_word-2.false) design c.in_ok-names.names.items _ c.in-Some.listing.items are.names listing cover;
    })
