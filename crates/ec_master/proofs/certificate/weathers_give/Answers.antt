use Rattle.ec_master.proofs.WeatherLemmas as weathers
use Rattle.ec_master.proofs.certificate.weathers_give.Goals as goal

pub returns-clause-gives : goal.returns-clause-gives
returns-clause-gives c items before later came are brings =
    (weathers.weathers_give items before later came are brings).gives

pub returns-clause-ring : goal.returns-clause-ring
returns-clause-ring c items before later came are brings all =
    (weathers.weathers_give items before later came are brings).ring all
