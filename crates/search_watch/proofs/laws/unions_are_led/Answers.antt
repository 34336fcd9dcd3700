use Rattle.search_watch.proofs.laws.unions_are_led.Goals as goal

pub returns : goal.returns
returns c = record {
  led = λ world new unions joins k union at. record {
    leads = joins.led k union at;
    left = (joins.below k union at).0;
    right = (joins.below k union at).1;
  };
}
