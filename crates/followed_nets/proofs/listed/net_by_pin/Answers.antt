use Rattle.std.proofs.Common.{sym}
use Rattle.lefdef_tokens.specs.Views.{word_view}
use Rattle.def_reader.specs.StatementViews.{record_view}
use Rattle.design_text.specs.DesignTexts.{design_of}
use Rattle.followed_nets.proofs.ListedNets.{if_named}
use Rattle.followed_nets.proofs.listed.net_by_pin.Goals as goal

pub returns : goal.returns
returns g c = if_named word_view c.args.pin.now (design_of c.args.text.now) (record_view c.in_ok-entry.entry) c.named_net.result (sym c.in_ok-entry.ensures) c.named_net.ensures
