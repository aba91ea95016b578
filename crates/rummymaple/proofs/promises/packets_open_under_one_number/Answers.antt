-- The packet spells one frame, and that came of the numbered one.
use Rattle.std.proofs.Common.{◌≡◌}
use Rattle.ec_number.proofs.Laws.{opened-with_number}
use Rattle.ec_number.specs.Number.{CameUnder, opened, with_number}
use Rattle.ec_wire.specs.Spelling.{spelling}
use Rattle.rummymaple.specs.Join.{IsPut}
use Rattle.rummymaple.proofs.NumberLemmas.{one-value, taken}
use Rattle.rummymaple.proofs.promises.packets_open_under_one_number.Goals as goal

pub returns-clause-one : goal.returns-clause-one
returns-clause-one c form m n sent packet before later count other copy below_m below_n opens spelt came =
    let is = taken form m sent packet before later count opens in
    let same : is.copy ≡ copy =
    one-value form packet is.copy copy c.one_spelling.ensures is.packet_is spelt in
    let own : CameUnder m is.frame is.copy = is.came in
    c.numbers_are_apart.ensures.apart m n is.frame other copy below_m below_n (rw same at own) came

pub returns-clause-own : goal.returns-clause-own
returns-clause-own c form n sent packet before later count frame copy sent_is spelt opens =
    let is = taken form n sent packet before later count opens in
    let same : is.copy ≡ copy =
    one-value form packet is.copy copy c.one_spelling.ensures is.packet_is spelt in
    let framed : is.frame ≡ frame =
    one-value form sent is.frame frame c.one_spelling.ensures is.sent_is sent_is in
    let came : CameUnder n is.frame is.copy = is.came in
    let put : IsPut (spelling (opened is.copy)) before count later = is.put in
    (c.numbers_are_apart.ensures.own n frame copy (rw (framed, same) at came), rw same at put)

pub returns-clause-told : goal.returns-clause-told
returns-clause-told c form n sent packet before later count turned came spelt opens =
    let is = taken form n sent packet before later count opens in
    let same : is.copy ≡ with_number turned n came =
    one-value form packet is.copy (with_number turned n came) c.one_spelling.ensures is.packet_is spelt in
    let put : IsPut (spelling (opened is.copy)) before count later = is.put in
    let at_copy : IsPut (spelling (opened (with_number turned n came))) before count later = rw same at put in
    rw (opened-with_number turned n came) at at_copy
