use Rattle.std.proofs.Common.{◌∙◌, ap, subst}
use Rattle.dir_header.specs.HomeSides.{HomeView, IsHome}
use Rattle.sharer_dir.specs.Linked.{LinkedView, IsLinkedDir, linked_directory}
use Rattle.thread_run.proofs.ending.told.Goals as goal

pub returns : goal.returns
returns c =
    let kept = subst (λ (h : HomeView LinkedView). IsHome (linked_directory h.dir) h) c.home-home.ensures c.cfg-cfg.ensures.kept in
    record {
      links = subst IsLinkedDir (c.dir.ensures ∙ ap (λ (h : HomeView LinkedView). h.dir) c.home-home.ensures) c.lines-lines.ensures.sound;
      lists = kept.lists;
    }
