-- What the frames come to is certified by the counters.
use Rattle.std.proofs.Common.{◌≡◌, ◌+◌, ◌∙◌, ap, sym, subst}
use Rattle.ec_ring.specs.Ring.{RingState}
use Rattle.ec_master.specs.Certificate.{memory_at, memory_in, application_at, shown_at, verdict_under}
use Rattle.ec_regs.specs.declared.registers.TheConstants.{PROCESS_MEMORY}
use Rattle.ec_master.specs.Covered.{InputsStand, OutputsAreShown}
use Rattle.ec_master.specs.Cut.{frames_of}
use Rattle.ec_master.specs.Ports.{taken_on}
use Rattle.ec_master.specs.Travelled.{answers_under, ring_under}
use Rattle.ec_master.specs.Unordered.{by_station, AreAnswers}
use Rattle.ec_master.proofs.CertificateLemmas as certificate
use Rattle.ec_master.proofs.CoveredGoodLemmas as covered
use Rattle.ec_master.proofs.SufficeLemmas.{taken-good, taken-other}
use Rattle.ec_master.proofs.VerdictLemmas.{verdict-counts, one_down_good}
use Rattle.ec_master.proofs.weather.weather_cycle.Given as given
use Rattle.ec_master.proofs.weather.weather_cycle.Goals as goal

-- the ring behind the frames, the work with their answers, and the verdict on these
ring : (g : given.Over) (c : goal.After-weather_cycle_in g)
    → g.T.Travel.ring c.weather_cycle_in.new.ring
    ≡ ring_under c.args.weather.now (g.T.Travel.ring c.args.ring.now) c.args.work.now
ring g c = c.weather_cycle_in.ensures.frames

verdict_is : (g : given.Over) (c : goal.After-weather_cycle_in g)
    → c.weather_cycle_in.result
    ≡ verdict_under c.args.weather.now (g.T.Travel.ring c.args.ring.now) c.args.work.now
verdict_is g c = c.weather_cycle_in.ensures.judged

taken_is : (g : given.Over) (c : goal.After-weather_cycle_in g)
    → c.weather_cycle_in.new.work ≡ taken_on c.weather_cycle_in.result c.args.work.now
    (answers_under c.args.weather.now (g.T.Travel.ring c.args.ring.now) c.args.work.now)
taken_is g c = c.weather_cycle_in.ensures.taken

pub returns-clause-judged : goal.returns-clause-judged
returns-clause-judged g c = verdict_is g c

pub returns-clause-taken : goal.returns-clause-taken
returns-clause-taken g c = taken_is g c

pub returns-clause-frames : goal.returns-clause-frames
returns-clause-frames g c = ring g c

pub returns-clause-verdict : goal.returns-clause-verdict
returns-clause-verdict g c accepted =
    verdict_is g c
    ∙ verdict-counts c.args.weather.now (g.T.Travel.ring c.args.ring.now) c.args.work.now
    c.weather_cycle_in.ensures.limit accepted c.are_items.ensures.items

pub returns-clause-good : goal.returns-clause-good
returns-clause-good g c accepted good =
    let r : RingState = g.T.Travel.ring c.args.ring.now in
    let items = c.args.work.now in
    let limit = c.weather_cycle_in.ensures.limit in
    let are = c.are_items.ensures.items in
    let judged = sym (verdict_is g c) ∙ good in
    let answered = sym (taken_is g c
    ∙ taken-good c.weather_cycle_in.result items (answers_under c.args.weather.now r items) good) in
    record {
      image = subst (AreAnswers (by_station r.slaves) items) answered
          (certificate.good_answers c.args.weather.now r items limit accepted are judged);
      memories = λ n. ap (λ (x : RingState). memory_at (by_station x.slaves) n) (ring g c)
          ∙ certificate.good_memories c.args.weather.now r items n limit accepted are judged;
      outputs = λ n k s below there shows.
          ap (λ (x : RingState). shown_at (by_station x.slaves) k n) (ring g c)
          ∙ certificate.good_shows c.args.weather.now r items n k s limit accepted are judged below there
          shows;
      outputs_alone = λ n k s below there alone.
          ap (λ (x : RingState). shown_at (by_station x.slaves) k n) (ring g c)
          ∙ certificate.good_shows c.args.weather.now r items n k s limit accepted are judged below there
          (certificate.shows-last-apart s.controller (PROCESS_MEMORY + k) (frames_of items) alone);
      inputs_stand = subst (InputsStand r.slaves items) answered
          (covered.good_inputs c.args.weather.now r items limit accepted are judged);
      outputs_are_shown = λ covers shown.
          subst (λ (later : RingState). OutputsAreShown r.slaves items later.slaves) (sym (ring g c))
          (covered.good_outputs c.fit_line.ensures.placed c.args.weather.now r items limit accepted are covers
          shown judged);
    }

pub returns-clause-untouched_work : goal.returns-clause-untouched_work
returns-clause-untouched_work g c other =
    taken_is g c ∙ taken-other c.weather_cycle_in.result c.args.work.now _ other

pub returns-clause-memory_on_every_verdict : goal.returns-clause-memory_on_every_verdict
returns-clause-memory_on_every_verdict g c k s accepted there =
    ap (λ (x : RingState). memory_in x.slaves k) (ring g c)
    ∙ certificate.reached_memory c.args.weather.now (g.T.Travel.ring c.args.ring.now) c.args.work.now k s
    accepted c.are_items.ensures.items there

pub returns-clause-applications : goal.returns-clause-applications
returns-clause-applications g c n accepted =
    ap (λ (x : RingState). application_at (by_station x.slaves) n) (ring g c)
    ∙ certificate.applications_kept c.args.weather.now (g.T.Travel.ring c.args.ring.now) c.args.work.now n
    accepted c.are_items.ensures.items

pub returns-clause-good_when_one_link_is_down : goal.returns-clause-good_when_one_link_is_down
returns-clause-good_when_one_link_is_down g c accepted down =
    verdict_is g c
    ∙ one_down_good c.args.weather.now (g.T.Travel.ring c.args.ring.now) c.args.work.now
    c.weather_cycle_in.ensures.limit accepted c.are_items.ensures.items down

pub returns-clause-links : goal.returns-clause-links
returns-clause-links g c = ap (λ (x : RingState). x.links) (ring g c)
