use Rattle.link_refusals.proofs.Links.{refused_link}
use Rattle.link_refusals.proofs.every_link_refusal.Goals as goal

pub returns : goal.returns
returns c = record { pending = λ charge trace events past positive runs src dst class victim done is refused. refused_link charge trace events past src dst class victim done positive runs is refused }
