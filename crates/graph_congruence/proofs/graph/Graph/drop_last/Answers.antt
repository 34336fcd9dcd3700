use Rattle.std.proofs.Common.{◌≡◌, ◌<◌, ◌-◌, length, take, ap, refl, sym, ◌∙◌, arith}
use Rattle.graph_meaning.specs.State.{GraphState}
use Rattle.graph_meaning.specs.Standing.{levels_of, triggers_of}
use Rattle.graph_congruence.specs.Clash.{apart_of}
use Rattle.graph_congruence.proofs.LastLemmas.{levels_left, triggers_few, triggers_left, apart_left, drops_last}
use Rattle.graph_congruence.proofs.ReadLemmas.{read_is}
use Rattle.graph_congruence.proofs.StartLemmas.{rest_read, limit_read, AreStarts-read}
use Rattle.graph_congruence.proofs.graph.Graph.drop_last.Goals as goal

pub overflow_sub-len : goal.overflow_sub-len
overflow_sub-len c =
    let live = c.self.invariant.live ∙ ap (λ (g : GraphState). triggers_of g.standing) c.self.view_is in
    omega (arith, triggers_few c.args.self.now.standing c.last_share-share.result c.requires c.last_share-share.ensures, ap length live, c.len.ensures, c.self.inside.live.ok.0)

pub overflow_sub-self : goal.overflow_sub-self
overflow_sub-self c =
    omega (arith, levels_left c.args.self.now.standing c.last_share-share.result c.requires c.last_share-share.ensures, c.self.invariant.levels, ap (λ (g : GraphState). levels_of g.standing) c.self.view_is)

pub invariant_of-self : goal.invariant_of-self
invariant_of-self c =
    let log = c.args.self.now.standing in
    let share = c.last_share-share.result in
    let few = c.requires in
    let is_log = ap (λ (g : GraphState). g.standing) c.self.view_is in
    let low : c.len-count.result - 1 < length c.self.inside.starts.items = omega (arith, few, c.len-count.ensures, c.self.inside.starts.ok.0, c.self.invariant.starts.each, ap length is_log) in
    let count : c.len-count.result - 1 ≡ length log - 1 = omega (arith, c.len-count.ensures, c.self.inside.starts.ok.0, c.self.invariant.starts.each, ap length is_log) in
    let read = read_is c.self.inside.starts.items (c.len-count.result - 1) c.index-start.result.now low c.index-start.ensures in
    let left = rest_read c.self.inside.classes c.back_to.new.self c.self.inside.starts.items c.truncate.new.self.items (c.len-count.result - 1) c.index-start.result.now c.self.invariant.starts low read c.back_to.ensures.gives c.back_to.ensures.kept c.back_to.ensures.at c.truncate.ensures.items log is_log count in
    let live = c.self.invariant.live ∙ ap triggers_of is_log in
    let apart = c.self.invariant.apart ∙ ap apart_of is_log in
    let live_len : c.len.result ≡ length (triggers_of log) = omega (arith, ap length live, c.len.ensures, c.self.inside.live.ok.0) in
    let apart_len : c.len-2.result ≡ length (apart_of log) = omega (arith, ap length apart, c.len-2.ensures, c.self.inside.apart.ok.0) in
    record {
      starts = AreStarts-read c.self.inside.classes c.back_to.new.self c.self.inside.starts.items c.truncate.new.self.items (c.len-count.result - 1) c.index-start.result.now c.self.invariant.starts low read c.back_to.ensures.gives c.back_to.ensures.kept c.back_to.ensures.at c.truncate.ensures.items;
      levels = omega (arith, levels_left log share few c.last_share-share.ensures, c.self.invariant.levels, ap levels_of is_log, ap levels_of left);
      live = c.truncate-2.ensures.items
          ∙ ap (λ n. take (n - share.triggers) c.self.inside.live.items) live_len
          ∙ ap (take (length (triggers_of log) - share.triggers)) live
          ∙ triggers_left log share few c.last_share-share.ensures
          ∙ ap triggers_of (sym left);
      apart = c.truncate-3.ensures.items
          ∙ ap (λ n. take (n - share.differs) c.self.inside.apart.items) apart_len
          ∙ ap (take (length (apart_of log) - share.differs)) apart
          ∙ apart_left log share few c.last_share-share.ensures
          ∙ ap apart_of (sym left);
      room = omega (arith, c.self.invariant.room);
    }

pub returns : goal.returns
returns c =
    let log = c.args.self.now.standing in
    let share = c.last_share-share.result in
    let few = c.requires in
    let is_log = ap (λ (g : GraphState). g.standing) c.self.view_is in
    let low : c.len-count.result - 1 < length c.self.inside.starts.items = omega (arith, few, c.len-count.ensures, c.self.inside.starts.ok.0, c.self.invariant.starts.each, ap length is_log) in
    let count : c.len-count.result - 1 ≡ length log - 1 = omega (arith, c.len-count.ensures, c.self.inside.starts.ok.0, c.self.invariant.starts.each, ap length is_log) in
    let read = read_is c.self.inside.starts.items (c.len-count.result - 1) c.index-start.result.now low c.index-start.ensures in
    let left = rest_read c.self.inside.classes c.back_to.new.self c.self.inside.starts.items c.truncate.new.self.items (c.len-count.result - 1) c.index-start.result.now c.self.invariant.starts low read c.back_to.ensures.gives c.back_to.ensures.kept c.back_to.ensures.at c.truncate.ensures.items log is_log count in
    drops_last log share few c.last_share-share.ensures c.args.self.now _ share.opens refl left
    (ap (λ (g : GraphState). g.done) c.self.view_is)
    (limit_read c.self.inside.classes c.back_to.new.self c.self.inside.starts.items c.truncate.new.self.items (c.len-count.result - 1) c.index-start.result.now c.self.invariant.starts low read c.back_to.ensures.gives c.back_to.ensures.kept c.back_to.ensures.at c.truncate.ensures.items ∙ ap (λ (g : GraphState). g.limit) c.self.view_is)
    refl
