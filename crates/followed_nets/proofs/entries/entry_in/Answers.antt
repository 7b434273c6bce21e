use Rattle.design_text.specs.DesignTexts.{design_of, text_of}
use Rattle.followed_nets.proofs.OneEntry.{found_alone}
use Rattle.followed_nets.proofs.entries.entry_in.Goals as goal

pub returns-in_default : goal.returns-in_default
returns-in_default g c =
    found_alone c.named_once.ensures (text_of c.args.text.now) (design_of c.args.text.now) c.design_is_read.ensures.reads c.args.section c.args.net.now _ (c.in_default.ensures.gives (design_of c.args.text.now) c.design_is_read.ensures.reads)

pub returns : goal.returns
returns g c =
    found_alone c.named_once.ensures (text_of c.args.text.now) (design_of c.args.text.now) c.design_is_read.ensures.reads c.args.section c.args.net.now _ (c.in-Some.ensures.gives (design_of c.args.text.now) c.design_is_read.ensures.reads)
