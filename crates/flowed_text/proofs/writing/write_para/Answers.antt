use Rattle.std.specs.Prelude.{string_bytes}
use Rattle.flowed_text.specs.Flow.{flow_para}
use Rattle.flowed_text.proofs.Written.{after_cut, after_space, written-last, written-more, written-start}
use Rattle.flowed_text.proofs.writing.write_para.Goals as goal

pub split_at-requires : goal.split_at-requires
split_at-requires c = after_space c.loop-end.rest.now c.in-Some.end c.loop-end.invariant.text c.in-Some.ensures.within c.in-Some.ensures.space

pub loop-end-init : goal.loop-end-init
loop-end-init c = record {
  text = c.as_str-rest.utf8;
  written = written-start c.args.para.now.depth (string_bytes c.args.out.now) c.args.para.now.text c.as_str-rest.result.now c.as_str-rest.ensures;
}

pub loop-end-preserved : goal.loop-end-preserved
loop-end-preserved c = record {
  text = after_cut c.loop-end.rest.now c.split_at.result.1.now c.in-Some.end c.loop-end.invariant.text c.in-Some.ensures.within c.in-Some.ensures.space c.split_at.ensures.back;
  written = written-more c.args.para.now.depth (string_bytes c.args.out.now) (string_bytes c.loop-end.out) (string_bytes c.write_line.new.out) c.split_at.result.0.now c.loop-end.rest.now
      c.split_at.result.1.now (flow_para c.args.para.now) c.in-Some.end c.loop-end.invariant.written c.in-Some.ensures.equals c.in-Some.ensures.space.0 c.in-Some.ensures.within
      c.split_at.ensures.front c.split_at.ensures.back c.split_at.ensures.back_len c.in_ok-write_line.ensures;
}

pub returns-clause-text : goal.returns-clause-text
returns-clause-text c =
    written-last c.write_line-2.result c.args.para.now.depth (string_bytes c.args.out.now) (string_bytes c.loop-end.out) (string_bytes c.write_line-2.new.out) c.loop-end.rest.now
    (flow_para c.args.para.now) c.loop-end.invariant.written c.in_default.ensures.equals c.write_line-2.ensures
